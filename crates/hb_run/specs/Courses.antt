-- A run so far, and what a turn makes of it.
use Rattle.std.specs.Prelude.{◌≡◌, ℕ, ◌+◌, ◌≤◌, List, ◌++◌, length, IsSome, Result}
use Rattle.std.specs.List.{flat_map}
use Rattle.hb_disk.specs.Model.{DiskModel}
use Rattle.hb_outside.specs.Calls.{SinkModel, Puts, PutsOn}
use Rattle.hb_outside.specs.declared.traits.Failed.{Failed}
use Rattle.hb_set.specs.declared.scripts.Answered.{Answered}
use Rattle.hb_text.specs.Output.{answer_text}
use Rattle.hb_steps.specs.declared.outcomes.Outcome.{Outcome}
use Rattle.hb_steps.specs.Machines.{Machine}
use Rattle.hb_steps.specs.Performing.{given_by}
use Rattle.hb_core.specs.Runs.{HasRun, left_count}
use Rattle.hb_core.specs.Showing.{RunningCore, ShowsMachine}
use Rattle.hb_steps.specs.Steps.{StepsTo}
use Rattle.hb_core.specs.Counting.{CountsStep}
use Rattle.hb_core.specs.Touching.{Touches}
use Rattle.hb_core.specs.Relied.{MayTakeSteps}
use Rattle.hb_core.specs.Working.{MayStep}
use Rattle.hb_run.specs.Beginnings.{Beginning}

-- A run as it is now: the disk, what the core holds, the sink, whether a put failed, what was answered and for how many answers there
-- is room, and how many lines have none.
pub record Course : Type 1 where
  pub disk : DiskModel
  pub core : RunningCore
  pub sink : SinkModel
  pub put : Result (Unit {0}) Failed
  pub answers : List Answered
  pub room : ℕ
  pub left : ℕ

-- The core shows a machine of which steps may be taken, and so many of its lines have no answer.
pub record ShowsLeft (d : DiskModel) (c : RunningCore) (left : ℕ) : Type 0 where
  pub machine : Machine
  pub may : MayStep d c machine
  pub left_is : left ≡ left_count machine

-- What the lock keeps. Steps of some actors led from each machine of the beginning to one that the core shows now, with these answers,
-- and their text was put; the lines without an answer are counted.
pub record KeepsRun (b : Beginning) (c : Course) : Type 0 where
  pub begun : MayTakeSteps b.disk b.core
  pub actors : List ℕ
  pub runs : (m : Machine) → MayStep b.disk b.core m → HasRun b.disk m actors c.answers c.disk c.core
  pub text : Puts (flat_map answer_text c.answers) c.put b.sink c.sink
  pub left_is : (m : Machine) → MayStep b.disk b.core m → length c.answers + c.left ≡ left_count m

-- A turn is one step of the actor, in full: what came of it, its answer, which is kept with the clock after the step, and the text of
-- that, which is put unless a put failed before.
pub record TakesTurn (actor : ℕ) (outcome : Outcome) (old new : Course) : Type 0 where
  pub steps : (m : Machine) → MayStep old.disk old.core m → (next : Machine) × StepsTo m actor outcome next × ShowsMachine new.disk new.core next
  pub touches : Touches old.disk old.core outcome new.disk new.core
  pub counts : CountsStep actor old.core new.core
  pub at : ℕ
  pub clock : IsSome new.disk.told → at ≡ new.disk.clock
  pub answers : new.answers ≡ old.answers ++ given_by outcome at
  pub written : PutsOn old.put (flat_map answer_text (given_by outcome at)) new.put old.sink new.sink
  pub left_is : length (given_by outcome at) + new.left ≡ old.left
  pub room : old.room ≤ new.room
