-- Exit statuses.
use Rattle.std.specs.Prelude.{ℕ}
use Rattle.hb_restart.specs.declared.faults.CreateFault.{CreateFault}
use Rattle.hb_restart.specs.declared.faults.CreateFault.TheVariants as makes
use Rattle.hb_restart.specs.declared.faults.OpenFault.{OpenFault}
use Rattle.hb_restart.specs.declared.faults.OpenFault.TheVariants as faults
use Rattle.hb_core.specs.declared.endings.End.{End}
use Rattle.hb_core.specs.declared.endings.End.TheVariants as ends
use Rattle.hb_store.specs.declared.stops.StopWhy.{StopWhy}
use Rattle.hb_store.specs.declared.stops.StopWhy.TheVariants as stops
use Rattle.hb_store.specs.declared.stops.Why.{Why}
use Rattle.hb_store.specs.declared.stops.Why.TheVariants as whys
use Rattle.hb_tidy.specs.declared.stops.TidyStop.{TidyStop}
use Rattle.hb_tidy.specs.declared.stops.TidyStop.TheVariants as tidies
use Rattle.hbpi.specs.declared.statuses.Damage.{Damage}
use Rattle.hbpi.specs.declared.statuses.Damage.TheVariants as damages
use Rattle.hbpi.specs.declared.statuses.Status.{Status}
use Rattle.hbpi.specs.declared.statuses.Status.TheVariants.{Done, Usage, BadText, SourceFault, SinkFault, DiskFault, Damaged, NoMemory, BadLayout, Small, Full, Spent}

abbrev pub code_of : Status → ℕ
code_of Done = 0
code_of Usage = 2
code_of (BadText bad) = 3
code_of SourceFault = 4
code_of SinkFault = 5
code_of DiskFault = 6
code_of (Damaged damage) = 7
code_of NoMemory = 8
code_of (BadLayout field value) = 9
code_of (Small needed found) = 9
code_of Full = 10
code_of Spent = 14

-- what is wrong with a page that a run met
abbrev pub damage_of : ℕ → Why → Damage
damage_of page (whys.Rule rule) = damages.Rule page rule
damage_of page (whys.Level asked found) = damages.Level page
damage_of page (whys.Extent asked found) = damages.Extent page

-- the status of a run whose file wasn't made
abbrev pub made_status : CreateFault → Status
made_status (makes.BadLayout bad) = BadLayout bad.field bad.value
made_status (makes.Small needed found) = Small needed found
made_status makes.DiskFault = DiskFault
made_status makes.NoMemory = NoMemory

-- the status of a run whose file wasn't opened
abbrev pub status_of : OpenFault → Status
status_of (faults.Small needed found) = Small needed found
status_of faults.NoSuper = Damaged damages.NoSuper
status_of (faults.BadGroup frame) = Damaged (damages.BadGroup frame)
status_of (faults.Unsound page rule) = Damaged (damages.Rule page rule)
status_of faults.DiskFault = DiskFault
status_of faults.NoMemory = NoMemory

-- the status of a run whose file wasn't tidied
abbrev pub tidy_status : TidyStop → Status
tidy_status tidies.Full = Full
tidy_status tidies.ReadFault = DiskFault
tidy_status tidies.WriteFault = DiskFault
tidy_status (tidies.Damaged page why) = Damaged (damage_of page why)
tidy_status tidies.Spent = Spent
tidy_status tidies.NoMemory = NoMemory

-- the status behind the last step
abbrev pub stop_status : StopWhy → Status
stop_status stops.WriteFault = DiskFault
stop_status (stops.Damaged page why) = Damaged (damage_of page why)

abbrev pub status_after : End → Status
status_after ends.Finished = Done
status_after ends.NoMemory = NoMemory
status_after ends.SinkFault = SinkFault
status_after ends.ReadFault = DiskFault
status_after (ends.Stopped why) = stop_status why
