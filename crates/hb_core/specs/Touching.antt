-- What a step does to the disk.
use Rattle.hb_steps.specs.Machines.{Machine}
use Rattle.hb_core.specs.Working.{MayStep}
use Rattle.std.specs.Prelude.{◌≡◌, ◌⊎◌, ◌↔◌, ◌<◌, ℕ, [], None, Some, Result, IsErr}
use Rattle.hb_disk.specs.Calls.{ReadsOnly}
use Rattle.hb_disk.specs.Model.{DiskModel}
use Rattle.hb_set.specs.declared.commands.Reply.TheVariants as replies
use Rattle.hb_activity.specs.declared.dropping.DropWhy.TheVariants as drops
use Rattle.hb_store.specs.declared.stops.WriteFault.{WriteFault}
use Rattle.hb_store.specs.declared.stops.StopWhy.TheVariants as stops
use Rattle.hb_store.specs.Forced.{WritesGroups}
use Rattle.hb_store.specs.Held.{StoreHeld, oldest_dirty}
use Rattle.hb_store.specs.Switching.{SwitchesTurn}
use Rattle.hb_store.specs.WritingHome.{WritesHome}
use Rattle.hb_core.specs.declared.halts.Halt.{Halt}
use Rattle.hb_core.specs.declared.halts.Halt.TheVariants.{GivesUp, Stops}
use Rattle.hb_steps.specs.declared.outcomes.Outcome.{Outcome}
use Rattle.hb_steps.specs.declared.outcomes.Outcome.TheVariants as outcomes
use Rattle.hb_core.specs.Counting.{CountsNoOp}
use Rattle.hb_core.specs.Showing.{RunningCore}

-- the step ended since a page couldn't be read
abbrev pub EndsByRead : Outcome → Type 0
EndsByRead (outcomes.Answered number reply) = reply ≡ replies.ReadFault
EndsByRead (outcomes.Dropped why) = why ≡ drops.ReadFault
EndsByRead other = ⊥

-- It read at most, and says so where a read failed. Nothing was written: whoever says that a write failed was stopped for that before.
pub record ReadsAtMost (d : DiskModel) (old : RunningCore) (outcome : Outcome) (e : DiskModel) : Type 0 where
  pub only : ReadsOnly (EndsByRead outcome) d e
  pub no_write : outcome ≡ outcomes.Stopped stops.WriteFault → old.stop ≡ Some stops.WriteFault

abbrev pub IsReadHalt : Halt → Type 0
IsReadHalt (GivesUp why) = why ≡ drops.ReadFault
IsReadHalt (Stops why) = ⊥

-- It wrote the groups that wait to the log, and is stopped where that failed. It ended for no read.
pub record Forces (d : DiskModel) (old : RunningCore) (outcome : Outcome) (e : DiskModel) (new : RunningCore) : Type 0 where
  pub result : Result (Unit {0}) WriteFault
  pub writes : WritesGroups result d e old.store new.store
  pub says : IsErr result ↔ (outcome ≡ outcomes.Stopped stops.WriteFault)
  pub no_read : ¬ (EndsByRead outcome)

-- No group waited, and it wrote the least recently used dirty page to its place; and is stopped where that failed.
abbrev pub held_in : RunningCore → StoreHeld
held_in c = record { state = c.store; uses = c.uses }

pub record WritesPage (d : DiskModel) (old : RunningCore) (outcome : Outcome) (e : DiskModel) (new : RunningCore) : Type 0 where
  pub result : Result (Unit {0}) WriteFault
  pub no_group : old.store.log.groups ≡ []
  pub page : ℕ
  pub oldest : oldest_dirty old.uses ≡ Some page
  pub writes : WritesHome result page d e (held_in old) (held_in new)
  pub says : IsErr result ↔ (outcome ≡ outcomes.Stopped stops.WriteFault)
  pub no_read : ¬ (EndsByRead outcome)

-- No group waited and no page was dirty, and it began the next turn of a log that has a frame; and is stopped where that failed.
pub record BeginsNextTurn (d : DiskModel) (old : RunningCore) (outcome : Outcome) (e : DiskModel) (new : RunningCore) : Type 0 where
  pub result : Result (Unit {0}) WriteFault
  pub no_group : old.store.log.groups ≡ []
  pub clean : oldest_dirty old.uses ≡ None
  pub some : 0 < old.store.log.written
  pub switches : SwitchesTurn result d e (held_in old) (held_in new)
  pub says : IsErr result ↔ (outcome ≡ outcomes.Stopped stops.WriteFault)
  pub no_read : ¬ (EndsByRead outcome)

-- A step reads at most, or it forces, or it writes a page to its place, or it begins the log's next turn.
abbrev pub Touches : DiskModel → RunningCore → Outcome → DiskModel → RunningCore → Type 0
Touches d old outcome e new = ReadsAtMost d old outcome e ⊎ Forces d old outcome e new ⊎ WritesPage d old outcome e new ⊎ BeginsNextTurn d old outcome e new

-- A part of a step that does no operation: what it makes of each machine that the core shows, and what it does to the disk and the counts.
pub record StepsSo (so : Machine → Type 0) (d : DiskModel) (old : RunningCore) (outcome : Outcome) (e : DiskModel) (new : RunningCore) : Type 0 where
  pub steps : (m : Machine) → MayStep d old m → so m
  pub touches : Touches d old outcome e new
  pub counts : CountsNoOp old new
