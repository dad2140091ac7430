-- Two steps of one actor from one machine go the same way, unless one was turned aside.
use Rattle.hb_steps.proofs.TwoSteps.Names.{ap, ◌≡◌, ◌≢◌, ◌⊎◌, inl, inr, ℕ, ◌≤◌, ◌+◌, ◌++◌, List, ◌∷◌, All, Option, Some, None, IfSome, IsSomeAnd, refl, sym, ◌∙◌, subst, arith, MatchOption, cases_lt, one_value, Reply, Line, Job, JobKind, Wanted, Activity, Outcome, Deed, answers_now, LeavesFirst, walk_held, IsMergingOf, Abandons, DoesRow, MeetsBadPage, wanted_by, FailsToWrite, Machine, with_disk, IsTurnedAside, ChangesQueue, PerformsAsItIs, TakesJob, TakesMerging, IsPostingOf}
use Rattle.std.proofs.Common.{IsTrue}
use Rattle.std.specs.List.{Contains}
use Rattle.std.proofs.lemmas.List.Elements.{All-contains, Contains-append_right, Contains-get_or}
use Rattle.hb_lemmas.proofs.Options.{not_both, not_none}
use Rattle.hb_activity.specs.declared.jobs.JobKind.TheVariants.{Post, Merge}
use Rattle.hb_activity.specs.declared.activities.Activity.TheVariants as at
use Rattle.hb_store.specs.declared.stops.StopWhy.{StopWhy}
use Rattle.hb_steps.specs.declared.outcomes.Outcome.TheVariants as outcomes
use Rattle.hb_boxlock.specs.declared.locks.BoxLock.{BoxLock}
use Rattle.hb_activity.specs.BoxLocks.{lock_of_command}
use Rattle.hb_steps.proofs.TwoSteps.OnePiece.{one_job, one_merging, taken}
use Rattle.hb_steps.specs.Forcing.{BeginsTurn, Flushes, FlushesOnce, FlushesRest, ForcesAll, HasDirtyPage, StaysSo, WritesOldest}
use Rattle.hb_steps.specs.Locking.{IsBoxInTheWay}
use Rattle.hb_steps.specs.Machines.{with_uses, modes}
use Rattle.hb_steps.specs.Steps.{BeginsLine, AwaitsPlace, GetsReady, StepsAs, StepsTo, TakesJobToMerge, TakesPosting, Works}
use Rattle.hb_latch.specs.Modes.{goes_beside}
use Rattle.hb_latch.specs.Tables.{IsGrantable, IsLeastInTheWay, HeldModes}
use Rattle.hb_point.specs.SessionRows.{next_line, taking}
use Rattle.hb_pool.specs.Frames.{clean}
use Rattle.hb_pool.specs.Pools.{in_place}
use Rattle.hb_store.specs.Held.{cleaned_state, oldest_dirty}

-- ---- the least actor in the way is one, and where one is the way isn't free

module _ (modes : HeldModes) (actor : ℕ) where
  one_least : (wanted : Option Wanted) (by other : ℕ) → IsSomeAnd wanted (λ w. IsLeastInTheWay modes actor w.page w.mode by) → IsSomeAnd wanted (λ w. IsLeastInTheWay modes actor w.page w.mode other) → by ≡ other
  one_least None by other none least = absurd none
  one_least (Some w) by other first second = elim (cases_lt by other) [
    | inl lt ↦ absurd (second.least by lt first.keeps)
    | inr ge ↦ elim (cases_lt other by) [
      | inl lt ↦ absurd (first.least other lt second.keeps)
      | inr le ↦ omega (arith, ge, le)
    ]
  ]

  not_free : (wanted : Option Wanted) (by : ℕ) → IsSomeAnd wanted (λ w. IsLeastInTheWay modes actor w.page w.mode by) → IfSome wanted (λ w. IsGrantable modes actor w.page w.mode) → ⊥
  not_free None by none free = none
  not_free (Some w) by least free = not_both (modes by w.page) (λ held. IsTrue (goes_beside w.mode held)) least.keeps.conflict (free by least.keeps.another)

one_in_the_way : (m : Machine) (actor : ℕ) (lock : BoxLock) (by other : ℕ) → IsBoxInTheWay m actor lock by → IsBoxInTheWay m actor lock other → by ≡ other
one_in_the_way m actor lock by other first second = elim (cases_lt by other) [
  | inl lt ↦ absurd (second.least by lt first.keeps)
  | inr ge ↦ elim (cases_lt other by) [
    | inl lt ↦ absurd (first.least other lt second.keeps)
    | inr le ↦ omega (arith, ge, le)
  ]
]

-- who takes a job holds no page of a walk yet
posting_holds_nothing : (job : Job) (height : ℕ) (next : Activity) → IsPostingOf job height next → walk_held next ≡ None
posting_holds_nothing job height next (inl (above, is)) = ap walk_held is
posting_holds_nothing job height next (inr (inl (same, is))) = ap walk_held is
posting_holds_nothing job height next (inr (inr (below, is))) = ap walk_held is

merging_holds_nothing : (job : Job) (height : ℕ) (next : Activity) → IsMergingOf job height next → walk_held next ≡ None
merging_holds_nothing job height next (inl (above, is)) = ap walk_held is
merging_holds_nothing job height next (inr (below, is)) = ap walk_held is

-- a write that fails within fewer calls fails within nine
in_nine : (m : Machine) (most : ℕ) (outcome : Outcome) (new : Machine) → most ≤ 9 → FailsToWrite m most outcome new → FailsToWrite m 9 outcome new
in_nine m most outcome new less fails = record { clock = fails.clock; from = fails.from; few = omega (arith, fails.few, less); says = fails.says; stops = fails.stops }

-- What is to be shown of two steps.
pub record ShowsBoth (m : Machine) (actor : ℕ) (outcome other : Outcome) (new next : Machine) (G : Type 0) : Type 0 where
  pub first_aside : IsTurnedAside m actor outcome new → G
  pub second_aside : IsTurnedAside m actor other next → G
  pub same : outcome ≡ other → new ≡ next → G
  pub deeds : (d e : Deed) → d ≡ e → walk_held d.next ≡ None → PerformsAsItIs m actor d outcome new → PerformsAsItIs m actor e other next → G
  pub rows : DoesRow m actor outcome new → DoesRow m actor other next → G

module _ (m : Machine) (actor : ℕ) (outcome other : Outcome) (new next : Machine) (G : Type 0) (shows : ShowsBoth m actor outcome other new next G) where
  both_stay : (said : Outcome) → StaysSo m said outcome new → StaysSo m said other next → G
  both_stay said (a, b) (c, d) = shows.same (a ∙ sym c) (b ∙ sym d)

  both_force : (said : Outcome) → ForcesAll m said outcome new → ForcesAll m said other next → G
  both_force said (inr (waits, fails)) second = shows.first_aside (inr (inl (in_nine m 4 outcome new (omega arith) fails)))
  both_force said (inl well) (inr (waits, fails)) = shows.second_aside (inr (inl (in_nine m 4 other next (omega arith) fails)))
  both_force said (inl (a, b)) (inl (c, d)) = shows.same (a ∙ sym c) (b ∙ sym d)

  -- two that write the oldest dirty page, or begin the next turn
  both_write : (due : Outcome) (page again : ℕ) → HasDirtyPage m page → HasDirtyPage m again → WritesOldest m page due outcome new → WritesOldest m again due other next → G
  both_write due page again oldest oldest_too first second =
      let same = one_value (oldest_dirty m.uses) page again oldest oldest_too in
      shows.same (first.says ∙ sym second.says)
      (first.leaves ∙ ap (λ (page : ℕ). with_uses (in_place page clean m.uses) (with_disk (cleaned_state page m.store) m.files (m.clock + 1) m)) same ∙ sym second.leaves)

  both_turn : (due : Outcome) → BeginsTurn m due outcome new → BeginsTurn m due other next → G
  both_turn due first second = shows.same (first.says ∙ sym second.says) (first.leaves ∙ sym second.leaves)

  first_failed : (most : ℕ) → most ≤ 9 → FailsToWrite m most outcome new → G
  first_failed most less fails = shows.first_aside (inr (inl (in_nine m most outcome new less fails)))

  second_failed : (most : ℕ) → most ≤ 9 → FailsToWrite m most other next → G
  second_failed most less fails = shows.second_aside (inr (inl (in_nine m most other next less fails)))

  both_rest : (due : Outcome) (first_does second_does : Type 0) → (first_does → second_does → G) → FlushesRest m due first_does outcome new → FlushesRest m due second_does other next → G
  both_rest due A B both (inl (page, oldest, inr fails)) second = first_failed 1 (omega arith) fails
  both_rest due A B both (inr (inl (old, inr fails))) second = first_failed 9 (omega arith) fails
  both_rest due A B both first (inl (page, oldest, inr fails)) = second_failed 1 (omega arith) fails
  both_rest due A B both first (inr (inl (old, inr fails))) = second_failed 9 (omega arith) fails
  both_rest due A B both (inl (page, oldest, inl first)) (inl (again, oldest_too, inl second)) = both_write due page again oldest oldest_too first second
  both_rest due A B both (inl (page, oldest, inl first)) (inr (inl (old, inl second))) = absurd (not_none (oldest_dirty m.uses) page oldest old.0)
  both_rest due A B both (inl (page, oldest, inl first)) (inr (inr (flushed, second))) = absurd (not_none (oldest_dirty m.uses) page oldest flushed.0)
  both_rest due A B both (inr (inl (old, inl first))) (inl (page, oldest, inl second)) = absurd (not_none (oldest_dirty m.uses) page oldest old.0)
  both_rest due A B both (inr (inl (old, inl first))) (inr (inl (old_too, inl second))) = both_turn due first second
  both_rest due A B both (inr (inl (old, inl first))) (inr (inr (flushed, second))) = absurd (let some = old.1 in let none = flushed.1 in omega (arith, some, none))
  both_rest due A B both (inr (inr (flushed, first))) (inl (page, oldest, inl second)) = absurd (not_none (oldest_dirty m.uses) page oldest flushed.0)
  both_rest due A B both (inr (inr (flushed, first))) (inr (inl (old, inl second))) = absurd (let some = old.1 in let none = flushed.1 in omega (arith, some, none))
  both_rest due A B both (inr (inr (flushed, first))) (inr (inr (flushed_too, second))) = both first second

  both_flush_once : (due : Outcome) (first_does second_does : Type 0) → (first_does → second_does → G) → FlushesOnce m due first_does outcome new → FlushesOnce m due second_does other next → G
  both_flush_once due A B both (inl (waits, first)) (inl (again, second)) = both_force due first second
  both_flush_once due A B both (inl (waits, first)) (inr (none, second)) = absurd (waits none)
  both_flush_once due A B both (inr (none, first)) (inl (waits, second)) = absurd (waits none)
  both_flush_once due A B both (inr (none, first)) (inr (again, second)) = both_rest due A B both first second

  -- ---- what works

  both_get_ready : GetsReady m outcome new → GetsReady m other next → G
  both_get_ready first second = both_flush_once outcomes.Helped ⊥ ⊥ (λ a b. absurd a) first second

  both_act : DoesRow m actor outcome new ⊎ Abandons m actor outcome new ⊎ MeetsBadPage m actor outcome new → DoesRow m actor other next ⊎ Abandons m actor other next ⊎ MeetsBadPage m actor other next → G
  both_act (inr (inl gives)) second = shows.first_aside (inr (inr (inl gives)))
  both_act (inr (inr meets)) second = shows.first_aside (inr (inr (inr meets)))
  both_act (inl row) (inr (inl gives)) = shows.second_aside (inr (inr (inl gives)))
  both_act (inl row) (inr (inr meets)) = shows.second_aside (inr (inr (inr meets)))
  both_act (inl row) (inl again) = shows.rows row again

  both_work : Works m actor outcome new → Works m actor other next → G
  both_work (inl (by, way, first)) (inl (by', way', second)) =
      let same = one_least (modes m) actor (wanted_by m actor) by by' way way' in
      both_stay (outcomes.Blocked by) first (subst (λ (n : ℕ). StaysSo m (outcomes.Blocked n) other next) (sym same) second)
  both_work (inl (by, way, first)) (inr (inl (free, ready, rest))) = absurd (not_free (modes m) actor (wanted_by m actor) by way free)
  both_work (inl (by, way, first)) (inr (inr (free, ready, rest))) = absurd (not_free (modes m) actor (wanted_by m actor) by way free)
  both_work (inr (inl (free, ready, rest))) (inl (by, way, second)) = absurd (not_free (modes m) actor (wanted_by m actor) by way free)
  both_work (inr (inr (free, ready, rest))) (inl (by, way, second)) = absurd (not_free (modes m) actor (wanted_by m actor) by way free)
  both_work (inr (inl (free, unready, first))) (inr (inl (free', unready', second))) = both_get_ready first second
  both_work (inr (inl (free, unready, first))) (inr (inr (free', ready, second))) = absurd (ready unready)
  both_work (inr (inr (free, ready, first))) (inr (inl (free', unready, second))) = absurd (ready unready)
  both_work (inr (inr (free, ready, first))) (inr (inr (free', ready', second))) = both_act first second

  -- ---- what takes a line or a job, and what awaits its place

  abbrev TakesOr : (o : Outcome) (n : Machine) → Option Line → Type 0
  TakesOr o n line = MatchOption line (StaysSo m outcomes.Idle o n) (λ line. BeginsLine m actor line o n)

  both_begin : (line : Line) → m.activity actor ≡ at.SessionIdle → next_line actor m.answered m.lines ≡ Some line → BeginsLine m actor line outcome new → BeginsLine m actor line other next → G
  both_begin line idle is (inl (by, way, first)) (inl (by', way', second)) =
      both_stay (outcomes.Blocked by) first (subst (λ (n : ℕ). StaysSo m (outcomes.Blocked n) other next) (sym (one_in_the_way m actor (lock_of_command line.command) by by' way way')) second)
  both_begin line idle is (inl (by, way, first)) (inr (free, second)) = absurd (free by way.keeps)
  both_begin line idle is (inr (free, first)) (inl (by, way, second)) = absurd (free by way.keeps)
  both_begin line idle is (inr (free, inr (boxes, performs))) (inr (free', second)) = shows.first_aside (inl (record { idle = idle; line = line; next = is; boxes = boxes; performs = performs }))
  both_begin line idle is (inr (free, inl first)) (inr (free', inr (boxes, performs))) = shows.second_aside (inl (record { idle = idle; line = line; next = is; boxes = boxes; performs = performs }))
  both_begin line idle is (inr (free, inl first)) (inr (free', inl second)) = shows.deeds (taking line) (taking line) refl refl first second

  both_take : (line : Option Line) → m.activity actor ≡ at.SessionIdle → next_line actor m.answered m.lines ≡ line → TakesOr outcome new line → TakesOr other next line → G
  both_take None idle is first second = both_stay outcomes.Idle first second
  both_take (Some line) idle is first second = both_begin line idle is first second

  -- a job that is taken was among those that wait
  was_waiting : (kind : JobKind) (job : Job) (old left : List Job) → LeavesFirst kind old job left → All (λ (job : Job). job.kind ≢ kind) old → ⊥
  was_waiting kind job old left leaves none =
      let among : Contains (leaves.front ++ job ∷ leaves.behind) job = Contains-append_right leaves.front (job ∷ leaves.behind) job (Contains-get_or (job ∷ leaves.behind) 0 job (omega arith)) in
      All-contains (λ (job : Job). job.kind ≢ kind) old job none (subst (λ (jobs : List Job). Contains jobs job) (sym leaves.whole) among) leaves.of_kind

  no_posting : (deed : Deed) (queue : List Job) → All (λ (job : Job). job.kind ≢ Post) m.jobs → TakesJob m deed → ChangesQueue deed m.jobs queue → ⊥
  no_posting deed queue none takes changes = was_waiting Post takes.job m.jobs changes.left (taken Post deed takes.job takes.next m.jobs queue takes.kind takes.deed_is changes) none

  both_post : TakesPosting m actor outcome new → TakesPosting m actor other next → G
  both_post (inl (none, first)) (inl (none', second)) = both_stay outcomes.Idle first second
  both_post (inl (none, first)) (inr (deed, takes, second)) = absurd (no_posting deed next.jobs none takes second.0.jobs)
  both_post (inr (deed, takes, first)) (inl (none, second)) = absurd (no_posting deed new.jobs none takes first.0.jobs)
  both_post (inr (d, takes, first)) (inr (e, again, second)) =
      shows.deeds d e (one_job m d e new.jobs next.jobs first.0.jobs second.0.jobs takes again) (ap (λ (x : Deed). walk_held x.next) takes.deed_is ∙ posting_holds_nothing takes.job m.store.meta.height takes.next takes.posting) first second

  no_merging : (deed : Deed) (queue : List Job) → All (λ (job : Job). job.kind ≢ Merge) m.jobs → TakesMerging m deed → ChangesQueue deed m.jobs queue → ⊥
  no_merging deed queue none takes changes = was_waiting Merge takes.job m.jobs changes.left (taken Merge deed takes.job takes.next m.jobs queue takes.kind takes.deed_is changes) none

  both_merge : TakesJobToMerge m actor outcome new → TakesJobToMerge m actor other next → G
  both_merge (inl (none, first)) (inl (none', second)) = both_stay outcomes.Idle first second
  both_merge (inl (none, first)) (inr (deed, takes, second)) = absurd (no_merging deed next.jobs none takes second.0.jobs)
  both_merge (inr (deed, takes, first)) (inl (none, second)) = absurd (no_merging deed new.jobs none takes first.0.jobs)
  both_merge (inr (d, takes, first)) (inr (e, again, second)) =
      shows.deeds d e (one_merging m d e new.jobs next.jobs first.0.jobs second.0.jobs takes again) (ap (λ (x : Deed). walk_held x.next) takes.deed_is ∙ merging_holds_nothing takes.job m.store.meta.height takes.next takes.merging) first second

  both_flush : Flushes m outcome new → Flushes m other next → G
  both_flush first second = both_flush_once outcomes.Moved (StaysSo m outcomes.Idle outcome new) (StaysSo m outcomes.Idle other next) (λ a b. both_stay outcomes.Idle a b) first second

  both_await : (number : ℕ) (reply : Reply) (place : ℕ) → AwaitsPlace m actor number reply place outcome new → AwaitsPlace m actor number reply place other next → G
  both_await number reply place (inl (lt, first)) (inl (lt', second)) = shows.deeds (answers_now number reply) (answers_now number reply) refl refl first second
  both_await number reply place (inl (lt, first)) (inr (ge, second)) = absurd (omega (arith, lt, ge))
  both_await number reply place (inr (ge, first)) (inl (lt, second)) = absurd (omega (arith, lt, ge))
  both_await number reply place (inr (ge, first)) (inr (ge', second)) = both_force outcomes.Moved first second

  both_step : (activity : Activity) → m.activity actor ≡ activity → StepsAs activity m actor outcome new → StepsAs activity m actor other next → G
  both_step at.SessionIdle is first second = both_take (next_line actor m.answered m.lines) is refl first second
  both_step (at.SessionAwait number reply place) is first second = both_await number reply place first second
  both_step at.PosterIdle is first second = both_post first second
  both_step at.ConsolidatorIdle is first second = both_merge first second
  both_step at.Flusher is first second = both_flush first second
  both_step activity is first second = both_work first second

  both_run : (stop : Option StopWhy)
      → MatchOption stop (StepsAs (m.activity actor) m actor outcome new) (λ why. StaysSo m (outcomes.Stopped why) outcome new)
      → MatchOption stop (StepsAs (m.activity actor) m actor other next) (λ why. StaysSo m (outcomes.Stopped why) other next) → G
  both_run None first second = both_step (m.activity actor) refl first second
  both_run (Some why) first second = both_stay (outcomes.Stopped why) first second

  pub both_steps : StepsTo m actor outcome new → StepsTo m actor other next → G
  both_steps first second = both_run m.stop first second
