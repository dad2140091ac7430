-- One step of an actor, as one relation: the tests in their order, and then the row of its activity.
use Rattle.std.specs.Prelude.{◌≡◌, ◌≢◌, ◌⊎◌, ℕ, ◌<◌, ◌≤◌, Bool, IsTrue, List, [], ◌∷◌, All, MatchOption, None, IsSomeAnd}
use Rattle.hb_set.specs.declared.commands.Reply.{Reply}
use Rattle.hb_set.specs.declared.scripts.Line.{Line}
use Rattle.hb_set.specs.declared.commands.Reply.TheVariants as replies
use Rattle.hb_activity.specs.declared.jobs.JobKind.TheVariants.{Post, Merge}
use Rattle.hb_activity.specs.declared.activities.Activity.{Activity}
use Rattle.hb_activity.specs.declared.jobs.Job.{Job}
use Rattle.hb_activity.specs.declared.activities.Activity.TheVariants as at
use Rattle.hb_steps.specs.declared.outcomes.Outcome.{Outcome}
use Rattle.hb_steps.specs.declared.outcomes.Outcome.TheVariants as outcomes
use Rattle.hb_activity.specs.Wanting.{may_commit}
use Rattle.hb_activity.specs.BoxLocks.{lock_of_command}
use Rattle.hb_activity.specs.Deeds.{Deed, answers_now, takes_job}
use Rattle.hb_consol.specs.ConsolidatorRows.{IsMergingOf}
use Rattle.hb_steps.specs.Acting.{DoesRow, Abandons, MeetsBadPage}
use Rattle.hb_steps.specs.Asking.{HasWayFree, IsInTheWay, looked_live, wanted_by}
use Rattle.hb_steps.specs.Forcing.{Flushes, FlushesOnce, ForcesAll, StaysSo}
use Rattle.hb_steps.specs.Locking.{HasBoxFree, IsBoxInTheWay}
use Rattle.hb_steps.specs.Machines.{Machine, settled_count}
use Rattle.hb_steps.specs.Performing.{PerformsAsItIs}
use Rattle.hb_pool.specs.Pools.{places}
use Rattle.hb_point.specs.SessionRows.{next_line, taking, WantsBoxes}
use Rattle.hb_poster.specs.PosterRows.{IsPostingOf}
use Rattle.hb_store.specs.Calls.{HasPlaces, IsReady}
use Rattle.hb_store.specs.States.{in_memory}

-- the step may change the file
abbrev pub may_change_file : Machine → ℕ → Bool
may_change_file m actor = may_commit (m.activity actor) m.store.meta (looked_live m.store (m.activity actor))

-- The step may change the file, and log and memory aren't ready; or it wants a page for which there is no place. Then it flushes.
abbrev pub MayChange : Machine → Type 0
MayChange m = IsReady m.store × HasPlaces m.uses

abbrev pub IsCrowded : Machine → ℕ → Type 0
IsCrowded m actor = (places m.uses ≡ 0) × IsSomeAnd (wanted_by m actor) (λ wanted. in_memory m.store wanted.page ≡ None)

abbrev pub IsUnready : Machine → ℕ → Type 0
IsUnready m actor = (IsTrue (may_change_file m actor) × (¬ (MayChange m))) ⊎ IsCrowded m actor

-- It flushes once: something is left to flush then, always.
abbrev pub GetsReady : Machine → Outcome → Machine → Type 0
GetsReady m outcome new = FlushesOnce m outcomes.Helped ⊥ outcome new

-- A step that wants a latch or changes the file: another actor is in the way; or log and memory aren't ready; or it may be done.
abbrev pub Works : Machine → ℕ → Outcome → Machine → Type 0
Works m actor outcome new =
    ((by : ℕ) × IsInTheWay m actor by × StaysSo m (outcomes.Blocked by) outcome new)
    ⊎ (HasWayFree m actor × IsUnready m actor × GetsReady m outcome new)
    ⊎ (HasWayFree m actor × (¬ (IsUnready m actor)) × (DoesRow m actor outcome new ⊎ Abandons m actor outcome new ⊎ MeetsBadPage m actor outcome new))

-- An idle poster takes its oldest job.
pub record TakesJob (m : Machine) (deed : Deed) : Type 0 where
  pub job : Job
  pub kind : job.kind ≡ Post
  pub next : Activity
  pub posting : IsPostingOf job m.store.meta.height next
  pub deed_is : deed ≡ takes_job next job

abbrev pub TakesPosting : Machine → ℕ → Outcome → Machine → Type 0
TakesPosting m actor outcome new =
    (All (λ job. job.kind ≢ Post) m.jobs × StaysSo m outcomes.Idle outcome new)
    ⊎ ((deed : Deed) × TakesJob m deed × PerformsAsItIs m actor deed outcome new)

-- So does an idle consolidator.
pub record TakesMerging (m : Machine) (deed : Deed) : Type 0 where
  pub job : Job
  pub kind : job.kind ≡ Merge
  pub next : Activity
  pub merging : IsMergingOf job m.store.meta.height next
  pub deed_is : deed ≡ takes_job next job

abbrev pub TakesJobToMerge : Machine → ℕ → Outcome → Machine → Type 0
TakesJobToMerge m actor outcome new =
    (All (λ job. job.kind ≢ Merge) m.jobs × StaysSo m outcomes.Idle outcome new)
    ⊎ ((deed : Deed) × TakesMerging m deed × PerformsAsItIs m actor deed outcome new)

-- A line that awaits its place is answered once that is settled. Till then the step forces.
abbrev pub AwaitsPlace : Machine → ℕ → ℕ → Reply → ℕ → Outcome → Machine → Type 0
AwaitsPlace m actor number reply place outcome new =
    ((place < settled_count m) × PerformsAsItIs m actor (answers_now number reply) outcome new)
    ⊎ ((settled_count m ≤ place) × ForcesAll m outcomes.Moved outcome new)

-- An idle session takes its next line, unless another actor's lock keeps it from the line's box. For a search that takes memory.
abbrev pub BeginsLine : Machine → ℕ → Line → Outcome → Machine → Type 0
BeginsLine m actor line outcome new =
    ((by : ℕ) × IsBoxInTheWay m actor (lock_of_command line.command) by × StaysSo m (outcomes.Blocked by) outcome new)
    ⊎ (HasBoxFree m actor (lock_of_command line.command) × (PerformsAsItIs m actor (taking line) outcome new ⊎ (WantsBoxes line.command × PerformsAsItIs m actor (answers_now line.number replies.NoMemory) outcome new)))

-- One step of an activity.
abbrev pub StepsAs : Activity → Machine → ℕ → Outcome → Machine → Type 0
StepsAs at.SessionIdle m actor outcome new = MatchOption (next_line actor m.answered m.lines) (StaysSo m outcomes.Idle outcome new) (λ line. BeginsLine m actor line outcome new)
StepsAs (at.SessionAwait number reply place) m actor outcome new = AwaitsPlace m actor number reply place outcome new
StepsAs at.PosterIdle m actor outcome new = TakesPosting m actor outcome new
StepsAs at.ConsolidatorIdle m actor outcome new = TakesJobToMerge m actor outcome new
StepsAs at.Flusher m actor outcome new = Flushes m outcome new
StepsAs (at.SessionWalk line held rest found) m actor outcome new = Works m actor outcome new
StepsAs (at.SessionSplit line held) m actor outcome new = Works m actor outcome new
StepsAs (at.SessionPut line source fresh) m actor outcome new = Works m actor outcome new
StepsAs (at.PosterGrow job) m actor outcome new = Works m actor outcome new
StepsAs (at.PosterWalk job held) m actor outcome new = Works m actor outcome new
StepsAs (at.PosterChild job parent) m actor outcome new = Works m actor outcome new
StepsAs (at.PosterPromote job parent) m actor outcome new = Works m actor outcome new
StepsAs (at.PosterAgain job parent) m actor outcome new = Works m actor outcome new
StepsAs (at.ConsolidatorWalk job held) m actor outcome new = Works m actor outcome new
StepsAs (at.ConsolidatorScan job parent child) m actor outcome new = Works m actor outcome new
StepsAs (at.ConsolidatorTry job parent keep gone leaf) m actor outcome new = Works m actor outcome new
StepsAs (at.ConsolidatorPromote job parent keep gone) m actor outcome new = Works m actor outcome new
StepsAs (at.ConsolidatorKeep job parent keep gone) m actor outcome new = Works m actor outcome new
StepsAs (at.ConsolidatorDecide job parent keep gone) m actor outcome new = Works m actor outcome new

-- One step of an actor. A machine that is stopped stays so.
abbrev pub StepsTo : Machine → ℕ → Outcome → Machine → Type 0
StepsTo m actor outcome new = MatchOption m.stop (StepsAs (m.activity actor) m actor outcome new) (λ why. StaysSo m (outcomes.Stopped why) outcome new)

-- Steps of these actors in sequence, from a machine to another.
abbrev pub StepsInSequence : List ℕ → Machine → Machine → Type 0
StepsInSequence [] m new = new ≡ m
StepsInSequence (actor ∷ rest) m new = (outcome : Outcome) × (next : Machine) × StepsTo m actor outcome next × StepsInSequence rest next new
