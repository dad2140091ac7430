-- The kinds of steps: nothing happens, a group is forced, a deed is done outright, or the step works. What holds of each kind
-- holds of each step.
use Rattle.hb_steps.proofs.Facts.Names.{◌≡◌, ◌⊎◌, inl, inr, ℕ, [], Option, Some, None, refl, sym, ap, ◌∙◌, subst, ◌<◌, MatchOption, Reply, Line, Job, Activity, StopWhy, Outcome, Deed, answers_now, walk_held, BeginsTurn, FailsToWrite, ForcesAll, StaysSo, WritesOldest, merging_at, Machine, settled_count, Performs, given_by, latches_held, StepsTo, Works, next_line, StoreState, Waits}
use Rattle.hb_set.specs.declared.commands.Reply.TheVariants as replies
use Rattle.hb_activity.specs.declared.activities.Activity.TheVariants as at
use Rattle.hb_steps.specs.declared.outcomes.Outcome.TheVariants as outcomes
use Rattle.hb_consol.specs.ConsolidatorRows.{IsMergingOf}
use Rattle.hb_steps.specs.Forcing.{Flushes, FlushesRest, HasDirtyPage, HasOldTurn}
use Rattle.hb_steps.specs.Performing.{PerformsAsItIs}
use Rattle.hb_steps.specs.Steps.{AwaitsPlace, BeginsLine, StepsAs, TakesJobToMerge, TakesPosting, TakesJob, TakesMerging}
use Rattle.hb_point.specs.SessionRows.{taking, WantsBoxes}
use Rattle.hb_poster.specs.PosterRows.{IsPostingOf}

-- an outcome that answers no line and drops no job
abbrev pub IsPlain : Outcome → Type 0
IsPlain (outcomes.Stopped why) = Unit {0}
IsPlain outcomes.Idle = Unit {0}
IsPlain (outcomes.Blocked by) = Unit {0}
IsPlain outcomes.Helped = Unit {0}
IsPlain (outcomes.Answered number reply) = ⊥
IsPlain (outcomes.Dropped why) = ⊥
IsPlain outcomes.Moved = Unit {0}

-- one that answers no line
abbrev pub IsQuiet : Outcome → Type 0
IsQuiet said = (at : ℕ) → given_by said at ≡ []

pub plain_is_quiet : (said : Outcome) → IsPlain said → IsQuiet said
plain_is_quiet (outcomes.Stopped why) plain at = refl
plain_is_quiet outcomes.Idle plain at = refl
plain_is_quiet (outcomes.Blocked by) plain at = refl
plain_is_quiet outcomes.Helped plain at = refl
plain_is_quiet (outcomes.Answered number reply) plain at = absurd plain
plain_is_quiet (outcomes.Dropped why) plain at = absurd plain
plain_is_quiet outcomes.Moved plain at = refl

-- What is left to flush once no group waits, with the calls that it takes.
abbrev pub MoreToFlush : Machine → ℕ → Type 0
MoreToFlush m calls = ((page : ℕ) × HasDirtyPage m page × (calls ≡ 1)) ⊎ (HasOldTurn m × (calls ≡ 9))

-- Once no group waits, a page is written to its place, or the next turn begins, or a write fails.
abbrev pub FlushesMore : Machine → Outcome → Machine → Type 0
FlushesMore m outcome new = (m.store.log.groups ≡ []) × (
    ((page : ℕ) × HasDirtyPage m page × (due : Outcome) × IsPlain due × WritesOldest m page due outcome new)
    ⊎ (HasOldTurn m × (due : Outcome) × IsPlain due × BeginsTurn m due outcome new)
    ⊎ ((calls : ℕ) × MoreToFlush m calls × FailsToWrite m calls outcome new))

-- So all that flushing comes to where no group waits.
pub rest_kind : (m : Machine) (due outcome : Outcome) (new : Machine) (nothing G : Type 0) → m.store.log.groups ≡ [] → IsPlain due → (FlushesMore m outcome new → G) → (nothing → G) → FlushesRest m due nothing outcome new → G
rest_kind m due outcome new nothing G none plain more done (inl (page, oldest, inl well)) = more (none, inl (page, oldest, due, plain, well))
rest_kind m due outcome new nothing G none plain more done (inl (page, oldest, inr fails)) = more (none, inr (inr (1, inl (page, oldest, refl), fails)))
rest_kind m due outcome new nothing G none plain more done (inr (inl (old, inl turns))) = more (none, inr (inl (old, due, plain, turns)))
rest_kind m due outcome new nothing G none plain more done (inr (inl (old, inr fails))) = more (none, inr (inr (9, inr (old, refl), fails)))
rest_kind m due outcome new nothing G none plain more done (inr (inr (flushed, so))) = done so

-- And where a step gets ready: something is flushed.
pub ready_kind : (m : Machine) (outcome : Outcome) (new : Machine) (G : Type 0) → m.store.log.groups ≡ [] → (FlushesMore m outcome new → G) → FlushesRest m outcomes.Helped ⊥ outcome new → G
ready_kind m outcome new G none more rest = rest_kind m outcomes.Helped outcome new ⊥ G none tt more (λ never. absurd never) rest

-- A deed that is done outright: it does nothing to the file, and its actor holds nothing afterwards.
pub record IsOutright (deed : Deed) : Type 0 where
  pub op : deed.op ≡ None
  pub walk : walk_held deed.next ≡ None
  pub latches : (st : StoreState) → latches_held st deed.next ≡ []
  pub merging : merging_at deed.next ≡ None

rests : (deed : Deed) → deed.op ≡ None → (next : Activity) → deed.next ≡ next → walk_held next ≡ None → ((st : StoreState) → latches_held st next ≡ []) → merging_at next ≡ None → IsOutright deed
rests deed none next is walk latches merging = record {
  op = none;
  walk = ap walk_held is ∙ walk;
  latches = λ st. ap (latches_held st) is ∙ latches st;
  merging = ap merging_at is ∙ merging;
}

-- a job that was taken
takes_nothing : (deed : Deed) (job : Job) (height : ℕ) → deed.op ≡ None → IsPostingOf job height deed.next → IsOutright deed
takes_nothing deed job height none (inl (above, is)) = rests deed none at.PosterIdle is refl (λ st. refl) refl
takes_nothing deed job height none (inr (inl (same, is))) = rests deed none (at.PosterGrow job) is refl (λ st. refl) refl
takes_nothing deed job height none (inr (inr (below, is))) = rests deed none (at.PosterWalk job None) is refl (λ st. refl) refl

merging_takes_nothing : (deed : Deed) (job : Job) (height : ℕ) → deed.op ≡ None → IsMergingOf job height deed.next → IsOutright deed
merging_takes_nothing deed job height none (inl (above, is)) = rests deed none at.ConsolidatorIdle is refl (λ st. refl) refl
merging_takes_nothing deed job height none (inr (below, is)) = rests deed none (at.ConsolidatorWalk job None) is refl (λ st. refl) refl

-- What is to be shown of each case of a step, with the activity of its actor and what it took. What is done outright needs no page to
-- come.
pub record ShowsEachSo (m : Machine) (actor : ℕ) (outcome : Outcome) (new : Machine) (G : Type 0) : Type 0 where
  pub stays : (said : Outcome) → IsPlain said → StaysSo m said outcome new → G
  pub forces : (said : Outcome) → IsPlain said → ForcesAll m said outcome new → G
  pub more : FlushesMore m outcome new → G
  pub takes : (line : Line) → m.activity actor ≡ at.SessionIdle → next_line actor m.answered m.lines ≡ Some line → PerformsAsItIs m actor (taking line) outcome new → G
  pub refuses : (line : Line) → m.activity actor ≡ at.SessionIdle → next_line actor m.answered m.lines ≡ Some line → WantsBoxes line.command → PerformsAsItIs m actor (answers_now line.number replies.NoMemory) outcome new → G
  pub posts : (deed : Deed) → m.activity actor ≡ at.PosterIdle → TakesJob m deed → PerformsAsItIs m actor deed outcome new → G
  pub merges : (deed : Deed) → m.activity actor ≡ at.ConsolidatorIdle → TakesMerging m deed → PerformsAsItIs m actor deed outcome new → G
  pub settles : (number place : ℕ) (reply : Reply) → m.activity actor ≡ at.SessionAwait number reply place → place < settled_count m → PerformsAsItIs m actor (answers_now number reply) outcome new → G
  pub works : (Waits (m.activity actor) → ⊥) → Works m actor outcome new → G

module _ (m : Machine) (actor : ℕ) (outcome : Outcome) (new : Machine) (G : Type 0) (shows : ShowsEachSo m actor outcome new G) where
  took_line : (line : Option Line) → m.activity actor ≡ at.SessionIdle → next_line actor m.answered m.lines ≡ line
      → MatchOption line (StaysSo m outcomes.Idle outcome new) (λ line. BeginsLine m actor line outcome new) → G
  took_line None idle next so = shows.stays outcomes.Idle tt so
  took_line (Some line) idle next (inl (by, way, so)) = shows.stays (outcomes.Blocked by) tt so
  took_line (Some line) idle next (inr (free, inl performs)) = shows.takes line idle next performs
  took_line (Some line) idle next (inr (free, inr (boxes, performs))) = shows.refuses line idle next boxes performs

  took_posting : m.activity actor ≡ at.PosterIdle → TakesPosting m actor outcome new → G
  took_posting idle (inl (none, so)) = shows.stays outcomes.Idle tt so
  took_posting idle (inr (deed, takes, performs)) = shows.posts deed idle takes performs

  took_merging : m.activity actor ≡ at.ConsolidatorIdle → TakesJobToMerge m actor outcome new → G
  took_merging idle (inl (none, so)) = shows.stays outcomes.Idle tt so
  took_merging idle (inr (deed, takes, performs)) = shows.merges deed idle takes performs

  flushed : Flushes m outcome new → G
  flushed (inl (waits, force)) = shows.forces outcomes.Moved tt force
  flushed (inr (none, rest)) = rest_kind m outcomes.Moved outcome new (StaysSo m outcomes.Idle outcome new) G none tt shows.more (shows.stays outcomes.Idle tt) rest

  awaited : (number place : ℕ) (reply : Reply) → m.activity actor ≡ at.SessionAwait number reply place → AwaitsPlace m actor number reply place outcome new → G
  awaited number place reply is (inl (settled, performs)) = shows.settles number place reply is settled performs
  awaited number place reply is (inr (waits, force)) = shows.forces outcomes.Moved tt force

  works_as : (activity : Activity) → m.activity actor ≡ activity → (Waits activity → ⊥) → Works m actor outcome new → G
  works_as activity is none one = shows.works (subst (λ (a : Activity). Waits a → ⊥) (sym is) none) one

  stepped : (activity : Activity) → m.activity actor ≡ activity → StepsAs activity m actor outcome new → G
  stepped at.SessionIdle is one = took_line (next_line actor m.answered m.lines) is refl one
  stepped (at.SessionAwait number reply place) is one = awaited number place reply is one
  stepped at.PosterIdle is one = took_posting is one
  stepped at.ConsolidatorIdle is one = took_merging is one
  stepped at.Flusher is one = flushed one
  stepped activity is one = works_as _ is (λ never. never) one

  ran : (stop : Option StopWhy) → MatchOption stop (StepsAs (m.activity actor) m actor outcome new) (λ why. StaysSo m (outcomes.Stopped why) outcome new) → G
  ran None one = stepped (m.activity actor) refl one
  ran (Some why) so = shows.stays (outcomes.Stopped why) tt so

  pub each_step_so : StepsTo m actor outcome new → G
  each_step_so step = ran m.stop step

-- The same where it is no matter that no page came.
pub record ShowsEach (m : Machine) (actor : ℕ) (outcome : Outcome) (new : Machine) (G : Type 0) : Type 0 where
  pub stays : (said : Outcome) → IsPlain said → StaysSo m said outcome new → G
  pub forces : (said : Outcome) → IsPlain said → ForcesAll m said outcome new → G
  pub more : FlushesMore m outcome new → G
  pub takes : (line : Line) → m.activity actor ≡ at.SessionIdle → next_line actor m.answered m.lines ≡ Some line → Performs m m.store actor (taking line) outcome new → G
  pub refuses : (line : Line) → m.activity actor ≡ at.SessionIdle → next_line actor m.answered m.lines ≡ Some line → WantsBoxes line.command → Performs m m.store actor (answers_now line.number replies.NoMemory) outcome new → G
  pub posts : (deed : Deed) → m.activity actor ≡ at.PosterIdle → TakesJob m deed → Performs m m.store actor deed outcome new → G
  pub merges : (deed : Deed) → m.activity actor ≡ at.ConsolidatorIdle → TakesMerging m deed → Performs m m.store actor deed outcome new → G
  pub settles : (number place : ℕ) (reply : Reply) → m.activity actor ≡ at.SessionAwait number reply place → place < settled_count m → Performs m m.store actor (answers_now number reply) outcome new → G
  pub works : (Waits (m.activity actor) → ⊥) → Works m actor outcome new → G

pub each_step : (m : Machine) (actor : ℕ) (outcome : Outcome) (new : Machine) (G : Type 0) → ShowsEach m actor outcome new G → StepsTo m actor outcome new → G
each_step m actor outcome new G shows step = each_step_so m actor outcome new G (record {
  stays = shows.stays;
  forces = shows.forces;
  more = shows.more;
  takes = λ line idle next p. shows.takes line idle next p.0;
  refuses = λ line idle next boxes p. shows.refuses line idle next boxes p.0;
  posts = λ deed idle takes p. shows.posts deed idle takes p.0;
  merges = λ deed idle takes p. shows.merges deed idle takes p.0;
  settles = λ number place reply is settled p. shows.settles number place reply is settled p.0;
  works = shows.works;
}) step

-- The same by kinds: nothing happens, a group is forced, a deed is done outright, or the step works.
module _ (m : Machine) (actor : ℕ) (outcome : Outcome) (new : Machine) (G : Type 0) (stays : (said : Outcome) → IsQuiet said → StaysSo m said outcome new → G) (forces : (said : Outcome) → IsQuiet said → ForcesAll m said outcome new → G)
    (more : FlushesMore m outcome new → G) (outright : (deed : Deed) → IsOutright deed → PerformsAsItIs m actor deed outcome new → G) (works : Works m actor outcome new → G) where
  pub each_kind_so : StepsTo m actor outcome new → G
  each_kind_so step = each_step_so m actor outcome new G (record {
    stays = λ said plain so. stays said (plain_is_quiet said plain) so;
    forces = λ said plain force. forces said (plain_is_quiet said plain) force;
    more = more;
    takes = λ line idle next performs. outright _ (record { op = refl; walk = refl; latches = λ st. refl; merging = refl }) performs;
    refuses = λ line idle next boxes performs. outright _ (record { op = refl; walk = refl; latches = λ st. refl; merging = refl }) performs;
    posts = λ deed idle takes performs. outright deed
        (takes_nothing deed takes.job m.store.meta.height (ap (λ (d : Deed). d.op) takes.deed_is) (subst (IsPostingOf takes.job m.store.meta.height) (sym (ap (λ (d : Deed). d.next) takes.deed_is)) takes.posting)) performs;
    merges = λ deed idle takes performs. outright deed
        (merging_takes_nothing deed takes.job m.store.meta.height (ap (λ (d : Deed). d.op) takes.deed_is) (subst (IsMergingOf takes.job m.store.meta.height) (sym (ap (λ (d : Deed). d.next) takes.deed_is)) takes.merging)) performs;
    settles = λ number place reply is settled performs. outright _ (record { op = refl; walk = refl; latches = λ st. refl; merging = refl }) performs;
    works = λ none one. works one;
  }) step

module _ (m : Machine) (actor : ℕ) (outcome : Outcome) (new : Machine) (G : Type 0) (stays : (said : Outcome) → IsQuiet said → StaysSo m said outcome new → G) (forces : (said : Outcome) → IsQuiet said → ForcesAll m said outcome new → G)
    (more : FlushesMore m outcome new → G) (outright : (deed : Deed) → IsOutright deed → Performs m m.store actor deed outcome new → G) (works : Works m actor outcome new → G) where
  pub each_kind : StepsTo m actor outcome new → G
  each_kind step = each_kind_so m actor outcome new G stays forces more (λ deed rests p. outright deed rests p.0) works step
