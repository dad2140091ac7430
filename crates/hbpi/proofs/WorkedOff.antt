-- A machine that has nothing left to do, by the core that shows it.
use Rattle.std.proofs.Common.{◌≡◌, ℕ, None, List, sym, ◌∙◌}
use Rattle.hb_activity.specs.declared.jobs.JobKind.TheVariants.{Post, Merge}
use Rattle.hb_steps.specs.Machines.{Machine}
use Rattle.hb_core.specs.Showing.{RunningCore, ShowsMachine}
use Rattle.hb_disk.specs.Model.{DiskModel}
use Rattle.hb_core.specs.declared.endings.End.{End}
use Rattle.hb_drive.specs.Driving.{DrivesTo}
use Rattle.hb_outside.specs.Calls.{SinkModel}
use Rattle.hb_set.specs.declared.scripts.Answered.{Answered}
use Rattle.hb_run.specs.Running.{IsWorkedOff, RunsTo}
use Rattle.hb_run.proofs.Facts.JobsShown.{jobs_shown}
use Rattle.hbpi.specs.Driven.{HasNothingLeft}

pub worked_off : (d : DiskModel) (c : RunningCore) (m : Machine) → ShowsMachine d c m → IsWorkedOff m c → HasNothingLeft m
worked_off d c m shows off = record {
  answered = off.answered;
  posted = jobs_shown Post d c m shows ∙ off.posted;
  merged = jobs_shown Merge d c m shows ∙ off.merged;
}

-- so of a run in threads
pub ran_off : {m : Machine} {answers : List Answered} {d e : DiskModel} {c : RunningCore} {end : End} {before after : SinkModel} → RunsTo m answers d e c end before after
    → (actors : List ℕ) × (drives : DrivesTo m actors answers d e c end before after) × (drives.run.new.stop ≡ None → HasNothingLeft drives.run.new)
ran_off {e = e} {c = c} runs =
    let run = runs.drives.run in
    (runs.actors, runs.drives, λ going. worked_off e c run.new run.shows (runs.whole (sym run.shows.stop ∙ going)))
