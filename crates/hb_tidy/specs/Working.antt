-- What happens to a machine while it is tidied, one thing after the other, and why each of them may.
use Rattle.std.specs.Prelude.{◌≡◌, ◌≢◌, ◌⊎◌, ℕ, ◌+◌, Bool, true, false, List, [], ◌∷◌, All, length, count_by, IfSome, Option, Some, None, Result, MatchResult}
use Rattle.hb_space.specs.declared.actors.TheConstants.{POSTER, CONSOLIDATOR, FLUSHER}
use Rattle.hb_activity.specs.declared.jobs.Job.{Job}
use Rattle.hb_ops.specs.declared.operations.Op.{Op}
use Rattle.hb_ops.specs.declared.operations.Op.TheVariants as ops
use Rattle.hb_store.specs.Fetching.{IsCrowdedOut}
use Rattle.hb_store.specs.declared.stops.StopWhy.TheVariants as whys
use Rattle.hb_store.specs.declared.stops.Why.{Why}
use Rattle.hb_store.specs.States.{StoreState}
use Rattle.hb_core.specs.Between.{LetsWait, PageComes}
use Rattle.hb_core.specs.Counting.{DidOp, DoesNoOp}
use Rattle.hb_core.specs.declared.counts.TidyCounts.{TidyCounts}
use Rattle.hb_steps.specs.Fetching.{IsBadRead}
use Rattle.hb_steps.specs.Machines.{Machine, stopped_for}
use Rattle.hb_steps.specs.ProgressLaws.{HasToDo}
use Rattle.hb_core.specs.Showing.{RunningCore}
use Rattle.hb_steps.specs.Steps.{StepsTo}
use Rattle.hb_steps.specs.SteppingLaws.{IsAtRest}
use Rattle.hb_steps.specs.declared.outcomes.Outcome.{Outcome}
use Rattle.hb_steps.specs.declared.outcomes.Outcome.TheVariants as outcomes
use Rattle.hb_tidy.specs.declared.stops.TidyStop.{TidyStop}
use Rattle.hb_tidy.specs.Counted.{added}
use Rattle.hb_tidy.specs.Owed.{IsJobOwed}
use Rattle.hb_tidy.specs.Tidying.{file_now}

-- An actor takes a step, which does an operation or none; a job comes to wait; a page comes into memory; or a damaged one stops the machine.
pub data Event : Type 0 where
  Steps : ℕ → Outcome → Option Op → Event
  Waits : Job → Event
  Comes : ℕ → Event
  Breaks : ℕ → Why → Event

-- While all others rest a worker takes a step that has a job in hand or one that waits for it; or a flush makes room for a page that has
-- no place in memory. The machine runs.
abbrev pub OthersRest : Machine → ℕ → Type 0
OthersRest m actor = (other : ℕ) → other ≢ actor → IsAtRest (m.activity other)

abbrev pub HasCause : Machine → ℕ → Type 0
HasCause m actor = (m.stop ≡ None) × ((((actor ≡ POSTER) ⊎ (actor ≡ CONSOLIDATOR)) × OthersRest m actor × HasToDo m actor) ⊎ ((actor ≡ FLUSHER) × (id : ℕ) × IsCrowdedOut id m.store m.uses))

-- What a step did to the file: this operation, whose group waits with its mark then; or none.
abbrev pub DidInStep : Option Op → ℕ → StoreState → StoreState → Type 0
DidInStep None mark old new = DoesNoOp old new
DidInStep (Some op) mark old new = DidOp op mark old new

-- What each makes of a machine. A step has such a cause, and over a disk that tells the file owes what a job is for. Nothing else changes.
abbrev pub Happens : Event → Machine → Machine → Type 0
Happens (Steps actor outcome op) m new = HasCause m actor × StepsTo m actor outcome new × DidInStep op (length m.order) m.store new.store
Happens (Waits job) m new = LetsWait job m new × IfSome (file_now m) (λ s. IsJobOwed s job)
Happens (Comes id) m new = PageComes id m new
Happens (Breaks id why) m new = (new ≡ stopped_for (whys.Damaged id why) m) × IsBadRead m.files m.store id why

-- one after the other
abbrev pub WorksOff : List Event → Machine → Machine → Type 0
WorksOff [] m new = new ≡ m
WorksOff (event ∷ rest) m new = (next : Machine) × Happens event m next × WorksOff rest next new

-- how many of them are steps
abbrev pub steps_in : List Event → ℕ
steps_in [] = 0
steps_in (Steps actor outcome op ∷ rest) = steps_in rest + 1
steps_in (other ∷ rest) = steps_in rest

-- and how many of these did an operation, of each kind
abbrev pub is_growth : Event → Bool
is_growth (Steps actor outcome (Some (ops.Grow fresh free_after))) = true
is_growth other = false

abbrev pub is_posting : Event → Bool
is_posting (Steps actor outcome (Some (ops.Post parent way inner area))) = true
is_posting other = false

abbrev pub is_split : Event → Bool
is_split (Steps actor outcome (Some (ops.Extract source fresh path cuts free_after))) = true
is_split other = false

abbrev pub is_merge : Event → Bool
is_merge (Steps actor outcome (Some (ops.Merge parent keep gone))) = true
is_merge other = false

abbrev pub operations_in : List Event → TidyCounts
operations_in events = record { grown = count_by is_growth events; posted = count_by is_posting events; split = count_by is_split events; merged = count_by is_merge events }

-- No job is dropped by it; or by none but the last.
abbrev pub DropsNone : Event → Type 0
DropsNone (Steps actor (outcomes.Dropped why) op) = ⊥
DropsNone other = Unit {0}

abbrev pub DropsAtEnd : List Event → Type 0
DropsAtEnd [] = Unit {0}
DropsAtEnd (event ∷ rest) = (DropsNone event ⊎ (rest ≡ [])) × DropsAtEnd rest

-- They lead from the one machine to the other, with as many steps, and as many operations of each kind, as the core has counted since. A job
-- that is dropped ends the call by an error.
pub record HasWorked {T : Type 0} (result : Result T TidyStop) (old : RunningCore) (m : Machine) (c : RunningCore) (new : Machine) : Type 0 where
  pub events : List Event
  pub works : WorksOff events m new
  pub counted : c.taken ≡ old.taken + steps_in events
  pub did : c.done ≡ added old.done (operations_in events)
  pub drops : MatchResult result (λ v. All DropsNone events) (λ stop. DropsAtEnd events)
