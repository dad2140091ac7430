-- That somebody may always go on, as laws.
use Rattle.std.specs.Prelude.{◌≡◌, ◌⊎◌, ℕ, ◌+◌, false, if◌then◌else◌, Contains, count_by, None, IsSome, is_some}
use Rattle.hb_space.specs.Actors.{IsActor}
use Rattle.hb_space.specs.declared.actors.TheConstants.{CONSOLIDATOR, POSTER}
use Rattle.hb_set.specs.Machine.{RecordSet}
use Rattle.hb_set.specs.declared.scripts.Line.{Line}
use Rattle.hb_activity.specs.declared.jobs.Job.{Job}
use Rattle.hb_activity.specs.Queue.{is_of}
use Rattle.hb_activity.specs.declared.jobs.JobKind.{JobKind}
use Rattle.hb_activity.specs.declared.jobs.JobKind.TheVariants.{Post, Merge}
use Rattle.hb_activity.specs.declared.activities.Activity.{Activity}
use Rattle.hb_activity.specs.declared.activities.Activity.TheVariants as at
use Rattle.hb_activity.specs.Classes.{job_in_work}
use Rattle.hb_point.specs.SessionRows.{is_answered, next_line}
use Rattle.hb_steps.specs.declared.outcomes.Outcome.{Outcome}
use Rattle.hb_steps.specs.declared.outcomes.Outcome.TheVariants as outcomes
use Rattle.hb_steps.specs.KeptMachine.{CoreKeeps}
use Rattle.hb_steps.specs.Machines.{Files, Machine}
use Rattle.hb_steps.specs.SteppingLaws.{IsAtRest}
use Rattle.hb_steps.specs.Steps.{StepsTo}

-- who works off the jobs of a kind, and how many an actor has in work
abbrev pub worker_for : JobKind → ℕ
worker_for Post = POSTER
worker_for Merge = CONSOLIDATOR

abbrev pub jobs_in_work : Activity → ℕ
jobs_in_work activity = if is_some (job_in_work activity) then 1 else 0

-- how many jobs of a kind wait or are in work
abbrev pub jobs_of : JobKind → Machine → ℕ
jobs_of kind m = count_by (is_of kind) m.jobs + jobs_in_work (m.activity (worker_for kind))

-- An actor has something to do: a line or a job in hand, a line whose place it awaits, a next line, or a job that waits for it.
abbrev pub HasToDo : Machine → ℕ → Type 0
HasToDo m actor =
    (¬ (IsAtRest (m.activity actor)))
    ⊎ ((m.activity actor ≡ at.SessionIdle) × IsSome (next_line actor m.answered m.lines))
    ⊎ ((m.activity actor ≡ at.PosterIdle) × (job : Job) × Contains m.jobs job × (job.kind ≡ Post))
    ⊎ ((m.activity actor ≡ at.ConsolidatorIdle) × (job : Job) × Contains m.jobs job × (job.kind ≡ Merge))

-- Something is left: a line without an answer, a job that waits, or an actor that isn't at rest.
abbrev pub HasSomethingLeft : Machine → Type 0
HasSomethingLeft m =
    ((line : Line) × Contains m.lines line × (is_answered line.number m.answered ≡ false))
    ⊎ ((job : Job) × Contains m.jobs job)
    ⊎ ((actor : ℕ) × IsActor actor × (¬ (IsAtRest (m.activity actor))))

-- what a step says that neither waits nor finds nothing to do
abbrev pub GoesForward : Outcome → Type 0
GoesForward (outcomes.Blocked by) = ⊥
GoesForward outcomes.Idle = ⊥
GoesForward (outcomes.Stopped why) = Unit {0}
GoesForward outcomes.Helped = Unit {0}
GoesForward (outcomes.Answered number reply) = Unit {0}
GoesForward (outcomes.Dropped why) = Unit {0}
GoesForward outcomes.Moved = Unit {0}

pub record GoesOnNow (m : Machine) (actor : ℕ) : Type 0 where
  pub may : IsActor actor
  pub to_do : HasToDo m actor
  pub forward : (outcome : Outcome) (new : Machine) → StepsTo m actor outcome new → GoesForward outcome

-- In a machine that runs and has something left, there is an actor of whom no step waits or finds nothing to do.
abbrev pub SomebodyGoesOnNow : Type 0
SomebodyGoesOnNow = (n : RecordSet) (m : Machine) (files : Files) → CoreKeeps n m files → m.stop ≡ None → HasSomethingLeft m → (actor : ℕ) × GoesOnNow m actor
