-- What a step says, by its cases: it neither answers a line nor drops a job; or it does a deed, that of a row or another one.
use Rattle.hb_steps.proofs.Table.Names.{◌≡◌, inl, inr, ℕ, ◌<◌, Some, sym, subst, Reply, Line, Outcome, Deed, answers_now, DoesRow, ForcesAll, StaysSo, Machine, Performs, StepsTo, TakesJob, TakesMerging, Works, WantsBoxes, next_line, taking}
use Rattle.hb_set.specs.declared.commands.Reply.TheVariants as replies
use Rattle.hb_activity.specs.declared.activities.Activity.TheVariants as at
use Rattle.hb_steps.specs.declared.outcomes.Outcome.TheVariants as outcomes
use Rattle.hb_steps.proofs.Facts.Ways.{KeepsAllButDisk, fails_so, flushes_so, forces_so, meets_so, stays_so, turns_so}
use Rattle.hb_steps.specs.Acting.{Abandons}
use Rattle.hb_steps.specs.Machines.{settled_count}
use Rattle.hb_steps.proofs.Facts.StepKinds.{FlushesMore, IsPlain, each_step, ready_kind}

-- What is to be shown of each case.
pub record ShowsSaid (m : Machine) (actor : ℕ) (outcome : Outcome) (new : Machine) (G : Type 0) : Type 0 where
  pub plain : IsPlain outcome → KeepsAllButDisk m new → G
  pub takes : (line : Line) → m.activity actor ≡ at.SessionIdle → next_line actor m.answered m.lines ≡ Some line → Performs m m.store actor (taking line) outcome new → G
  pub refuses : (line : Line) → m.activity actor ≡ at.SessionIdle → next_line actor m.answered m.lines ≡ Some line → WantsBoxes line.command → Performs m m.store actor (answers_now line.number replies.NoMemory) outcome new → G
  pub posts : (deed : Deed) → m.activity actor ≡ at.PosterIdle → TakesJob m deed → Performs m m.store actor deed outcome new → G
  pub merges : (deed : Deed) → m.activity actor ≡ at.ConsolidatorIdle → TakesMerging m deed → Performs m m.store actor deed outcome new → G
  pub settles : (number place : ℕ) (reply : Reply) → m.activity actor ≡ at.SessionAwait number reply place → place < settled_count m → Performs m m.store actor (answers_now number reply) outcome new → G
  pub does : DoesRow m actor outcome new → G
  pub gives : Abandons m actor outcome new → G

module _ (m : Machine) (actor : ℕ) (outcome : Outcome) (new : Machine) (G : Type 0) (shows : ShowsSaid m actor outcome new G) where
  said : (due : Outcome) → IsPlain due → outcome ≡ due → KeepsAllButDisk m new → G
  said due plain says keeps = shows.plain (subst IsPlain (sym says) plain) keeps

  stays : (due : Outcome) → IsPlain due → StaysSo m due outcome new → G
  stays due plain so = said due plain so.0 (stays_so m actor outcome new due so)

  forces : (due : Outcome) → IsPlain due → ForcesAll m due outcome new → G
  forces due plain (inl well) = said due plain well.0 (forces_so m actor outcome new due (inl well))
  forces due plain (inr badly) = said _ tt badly.1.says (fails_so m actor outcome new badly.1)

  more : FlushesMore m outcome new → G
  more (none, inl (page, oldest, due, plain, well)) = said due plain well.says (flushes_so m actor outcome new well)
  more (none, inr (inl (old, due, plain, turns))) = said due plain turns.says (turns_so m actor outcome new turns)
  more (none, inr (inr (calls, left, fails))) = said _ tt fails.says (fails_so m actor outcome new fails)

  worked : Works m actor outcome new → G
  worked (inl (by, way, so)) = stays (outcomes.Blocked by) tt so
  worked (inr (inl (free, unready, inl (waits, force)))) = forces outcomes.Helped tt force
  worked (inr (inl (free, unready, inr (none, rest)))) = ready_kind m outcome new G none more rest
  worked (inr (inr (free, ready, inl acts))) = shows.does acts
  worked (inr (inr (free, ready, inr (inl gives)))) = shows.gives gives
  worked (inr (inr (free, ready, inr (inr meets)))) = said _ tt meets.says (meets_so m actor outcome new meets)

  pub each_saying : StepsTo m actor outcome new → G
  each_saying step = each_step m actor outcome new G (record {
    stays = stays;
    forces = forces;
    more = more;
    takes = shows.takes;
    refuses = shows.refuses;
    posts = shows.posts;
    merges = shows.merges;
    settles = shows.settles;
    works = λ none one. worked one;
  }) step
