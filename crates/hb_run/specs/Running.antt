-- What a run of threads comes to.
use Rattle.std.specs.Prelude.{◌≡◌, ℕ, true, false, List, None, is_some}
use Rattle.hb_disk.specs.Model.{DiskModel}
use Rattle.hb_outside.specs.Calls.{SinkModel}
use Rattle.hb_set.specs.declared.scripts.Answered.{Answered}
use Rattle.hb_activity.specs.declared.jobs.JobKind.TheVariants.{Post, Merge}
use Rattle.hb_core.specs.declared.endings.End.{End}
use Rattle.hb_steps.specs.Machines.{Machine}
use Rattle.hb_core.specs.Runs.{left_count}
use Rattle.hb_core.specs.Showing.{RunningCore}
use Rattle.hb_drive.specs.Driving.{DrivesTo}
use Rattle.hb_run.specs.Beginnings.{Beginning}
use Rattle.hb_run.specs.Courses.{Course, KeepsRun}
use Rattle.hb_run.specs.Turning.{is_done, jobs_left}

-- The turns of a run are over: nothing is left to do, unless the core is stopped.
pub record TurnsAreOver (b : Beginning) (c : Course) : Type 0 where
  pub keeps : KeepsRun b c
  pub whole : is_some c.core.stop ≡ false → is_done c ≡ true

-- No line is left without an answer, and no job of either kind waits or is in work.
pub record IsWorkedOff (m : Machine) (c : RunningCore) : Type 0 where
  pub answered : left_count m ≡ 0
  pub posted : jobs_left Post c ≡ 0
  pub merged : jobs_left Merge c ≡ 0

-- Steps of some actors lead from the machine to one that the core shows then, with these answers, and the run's text was written. Unless
-- the core is stopped, everything is worked off.
pub record RunsTo (m : Machine) (answers : List Answered) (d e : DiskModel) (c : RunningCore) (end : End) (before after : SinkModel) : Type 0 where
  pub actors : List ℕ
  pub drives : DrivesTo m actors answers d e c end before after
  pub whole : c.stop ≡ None → IsWorkedOff drives.run.new c
