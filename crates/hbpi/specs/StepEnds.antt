-- How a run of `drive`, `run` or `work` ends.
use Rattle.std.specs.Prelude.{◌≡◌, IsSome, All, ◌⊎◌, ℕ, ◌≤◌, List, None, Some}
use Rattle.hb_steps.specs.Machines.{Machine}
use Rattle.hb_core.specs.Runs.{HasReadFault}
use Rattle.hb_outside.specs.Calls.{SinkModel}
use Rattle.hb_outside.specs.Streams.{Rose, Appends, AppendsFront}
use Rattle.hb_restart.specs.declared.faults.OpenFault.{OpenFault}
use Rattle.hb_set.specs.declared.scripts.Line.{Line}
use Rattle.hb_store.specs.declared.stops.StopWhy.TheVariants as stops
use Rattle.hb_store.specs.declared.stops.Why.{Why}
use Rattle.hbpi.specs.Codes.{damage_of, status_of}
use Rattle.hb_steps.specs.DamageLaws.{IsUndamaged}
use Rattle.hbpi.specs.Drives.{TakesSteps}
use Rattle.hbpi.specs.OnTheWay.{IsFullByCause, WaysHaveOnePage}
use Rattle.hbpi.specs.Outcome.{GetsLine, fault_line}
use Rattle.hbpi.specs.Schedules.{CameFrom}
use Rattle.hbpi.specs.SeenRuns.{Run}
use Rattle.hbpi.specs.declared.statuses.Status.{Status}
use Rattle.hbpi.specs.declared.statuses.Status.TheVariants.{Done, Usage, BadText, SourceFault, SinkFault, DiskFault, Damaged, NoMemory, BadLayout, Small, Full, Spent}
use Rattle.hbpi.specs.Driven.{BeginsOpened, IsShutOut, IsTurnedAway, Manner}

-- a script came, and steps were taken in this manner
pub record Drove (by : Manner) (run : Run) (after : Machine) : Type 0 where
  pub k : ℕ
  pub lines : List Line
  pub steps : List ℕ
  pub came : CameFrom by.origin k run.seen.source_before run.seen.source_after lines steps
  pub source : run.seen.source_after.faults ≡ run.seen.source_before.faults
  pub actors : List ℕ
  pub takes : TakesSteps run.before run.after k lines actors run.seen.answered run.seen.order after
  pub begins : BeginsOpened run takes.before
  -- a line is `full` only by its cause
  pub full : All (IsFullByCause takes.before actors) after.answered
  -- over a disk that tells each point has one page on any way from there, and no page was met damaged
  pub pages : IsSome run.before.told → WaysHaveOnePage takes.before
  pub undamaged : IsSome run.before.told → IsUndamaged after
  pub goes : by.goes steps actors after

-- the whole text of the run, and behind it the fault line of the status, or a front of that
pub record GetsOutput (before after : SinkModel) (text : List ℕ) (status : Status) : Type 0 where
  pub between : SinkModel
  pub whole : Appends before.written between.written text
  pub same : between.faults ≡ before.faults
  pub line : GetsLine between after (fault_line status)

-- Why a run that came to this machine ends so, and what it has put: the sink failed; or else the machine is stopped; or a reply is a
-- read fault; or none of these.
abbrev pub RanEnds : Manner → Status → Run → Machine → Type 0
RanEnds by Done run m = (text : List ℕ) × by.output run m text × Appends run.seen.sink_before.written run.seen.sink_after.written text × (run.seen.sink_after.faults ≡ run.seen.sink_before.faults) × (m.stop ≡ None) × (¬ (HasReadFault run.seen.answered))
RanEnds by SinkFault run m = (text : List ℕ) × by.output run m text × AppendsFront run.seen.sink_before.written run.seen.sink_after.written text × Rose run.seen.sink_before.faults run.seen.sink_after.faults × (run.seen.sink_before.faults ≤ run.seen.sink_after.faults)
RanEnds by DiskFault run m = GetsOutput run.seen.sink_before run.seen.sink_after (by.in_front run m) DiskFault × ((m.stop ≡ Some stops.WriteFault) ⊎ ((m.stop ≡ None) × HasReadFault run.seen.answered))
RanEnds by (Damaged damage) run m = GetsOutput run.seen.sink_before run.seen.sink_after (by.in_front run m) (Damaged damage) × (page : ℕ) × (why : Why) × (m.stop ≡ Some (stops.Damaged page why)) × (damage ≡ damage_of page why)
RanEnds by Usage run m = ⊥
RanEnds by (BadText bad) run m = ⊥
RanEnds by SourceFault run m = ⊥
RanEnds by NoMemory run m = ⊥
RanEnds by (BadLayout field value) run m = ⊥
RanEnds by (Small needed found) run m = ⊥
RanEnds by Full run m = ⊥
RanEnds by Spent run m = ⊥

-- How a run of `drive`, `run` or `work` ends: its file wasn't opened; or no script came; or steps were taken.
abbrev pub StepsEnd : Manner → Run → Status → Type 0
StepsEnd by run status =
    ((fault : OpenFault) × (status ≡ status_of fault) × IsShutOut run fault)
    ⊎ IsTurnedAway by.origin run status
    ⊎ ((after : Machine) × Drove by run after × RanEnds by status run after)
