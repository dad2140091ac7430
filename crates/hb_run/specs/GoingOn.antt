-- What an actor does after its turn.
use Rattle.std.specs.Prelude.{◌≡◌, ◌≢◌, ◌⊎◌, ◌≤◌, ◌<◌, ℕ, ◌+◌, ◌==◌, Bool, true, false, not, List, length, ◌||◌, ◌&&◌, All, Option, Some, None, is_some}
use Rattle.std.specs.List.{slice_get}
use Rattle.hb_space.specs.declared.actors.TheConstants.{SESSIONS, FLUSHER}
use Rattle.hb_activity.specs.declared.jobs.JobKind.{JobKind}
use Rattle.hb_set.specs.declared.scripts.Line.{Line}
use Rattle.hb_steps.specs.declared.outcomes.Outcome.{Outcome}
use Rattle.hb_steps.specs.KeptSequence.{HasAnswer}
use Rattle.hb_steps.specs.Machines.{Machine}
use Rattle.hb_steps.specs.ProgressLaws.{worker_for}
use Rattle.hb_core.specs.Showing.{ShowsMachine}
use Rattle.hb_run.specs.Courses.{Course, TakesTurn}
use Rattle.hb_run.specs.Turning.{is_done, is_due, jobs_left, round_of, turn_of}
use Rattle.hb_run.specs.Waiting.{signs_of, still_waits}
use Rattle.hb_run.specs.declared.turns.Turn.{Turn}
use Rattle.hb_run.specs.declared.turns.Turn.TheVariants as turns
use Rattle.hb_run.specs.declared.turns.Pause.{Pause}
use Rattle.hb_run.specs.declared.turns.Pause.TheVariants as pauses
use Rattle.hb_run.specs.declared.turns.Next.{Next}
use Rattle.hb_run.specs.declared.turns.Next.TheVariants as nexts

-- each line of the session has an answer
abbrev pub HasNoLineLeft : ℕ → Course → Type 0
HasNoLineLeft session c = (m : Machine) → ShowsMachine c.disk c.core m → All (λ (line : Line). line.session ≡ session → HasAnswer m line) m.lines

-- An actor ends only where the core is stopped; a session also where it has no line left, a worker where all is done, and who flushes
-- where each line has an answer.
abbrev pub MayEnd : ℕ → Course → Type 0
MayEnd actor c = (is_some c.core.stop ≡ true) ⊎ ((actor ≤ SESSIONS) × HasNoLineLeft actor c) ⊎ (is_done c ≡ true) ⊎ ((actor ≡ FLUSHER) × (c.left ≡ 0))

-- What a turn gives its actor cause to wait for, by what it came to, if it took a step, and by how many lines had taken effect before.
-- Who was kept back waits behind who was in the way; who found no job, for one; and who took no step, till it is time to flush. A line
-- that took effect in the turn waits till its place is settled, where nobody is held between turns.
abbrev pub GivesCause : ℕ → ℕ → Bool → List ℕ → Course → Option Turn → Pause → Type 0
GivesCause actor effects free moves c (Some (turns.Blocked by)) (pauses.Behind place count) = (by ≡ place + 1) × (slice_get moves place ≡ Some count)
GivesCause actor effects free moves c (Some turns.Idle) (pauses.NoJob kind) = actor ≡ worker_for kind
GivesCause actor effects free moves c (Some turns.More) (pauses.Unsettled place round) = (free ≡ true) × (place ≡ effects) × (place < length c.core.order) × (round ≡ round_of c.core.taken)
GivesCause actor effects free moves c None pauses.NotDue = Unit {0}
GivesCause actor effects free moves c turn pause = ⊥

-- It has something to go on for: not where it took no step; and where it found nothing to do, only if it flushes, or a job is left for it.
abbrev pub HasWork : ℕ → Course → Option Turn → Type 0
HasWork actor c None = ⊥
HasWork actor c (Some turns.Idle) = (actor ≡ FLUSHER) ⊎ ((kind : JobKind) × (actor ≡ worker_for kind) × (jobs_left kind c.core ≢ 0))
HasWork actor c (Some turn) = Unit {0}

-- It goes on where the core runs, it has something to go on for, and nothing is left to wait for.
pub record MayGo (actor effects : ℕ) (free : Bool) (moves : List ℕ) (c : Course) (turn : Option Turn) : Type 0 where
  pub runs : is_some c.core.stop ≡ false
  pub work : HasWork actor c turn
  pub come : (pause : Pause) → GivesCause actor effects free moves c turn pause → still_waits pause (signs_of moves true c) ≡ false

-- What an actor does next: it waits for what hasn't come, if somebody comes, and for nothing else; and goes on only where it needn't wait.
abbrev pub GoesWell : ℕ → ℕ → Bool → List ℕ → Course → Option Turn → Next → Type 0
GoesWell actor effects free moves c turn nexts.Goes = MayGo actor effects free moves c turn
GoesWell actor effects free moves c turn (nexts.Waits pause) = GivesCause actor effects free moves c turn pause × (still_waits pause (signs_of moves true c) ≡ true)
GoesWell actor effects free moves c turn nexts.Ends = MayEnd actor c

-- It took one step, or none: who flushes takes none while it isn't time or no line is left, unless the core is stopped.
abbrev pub may_flush : Course → Bool
may_flush c = is_some c.core.stop || (not (c.left == 0) && is_due c.core)

abbrev pub Rests : ℕ → Bool → List ℕ → Course → Next → Type 0
Rests actor free moves c next = (actor ≡ FLUSHER) × (may_flush c ≡ false) × GoesWell actor (length c.core.order) free moves c None next

abbrev pub Steps : ℕ → Bool → List ℕ → Course → Course → Next → Type 0
Steps actor free moves old new next = (outcome : Outcome) × TakesTurn actor outcome old new × GoesWell actor (length old.core.order) free moves new (Some (turn_of outcome)) next
