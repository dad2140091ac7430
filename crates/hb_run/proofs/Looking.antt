-- The jobs that are left, through the machine that a core shows.
use Rattle.std.proofs.Common.{◌≡◌, ℕ, ◌∙◌}
use base.Stored.{Coded-set}
use Rattle.std.specs.Coded.{coded_ℕ}
use Rattle.std.proofs.Math.Logic.{∥∥₁_elim}
use Rattle.hb_activity.specs.declared.jobs.JobKind.{JobKind}
use Rattle.hb_steps.specs.Machines.{Machine}
use Rattle.hb_steps.specs.ProgressLaws.{jobs_of}
use Rattle.hb_core.specs.Showing.{RunningCore, ShowsMachine}
use Rattle.hb_disk.specs.Model.{DiskModel}
use Rattle.hb_run.specs.Courses.{ShowsLeft}
use Rattle.hb_run.specs.Turning.{jobs_left}
use Rattle.hb_run.proofs.Facts.JobsShown.{jobs_shown}

-- the jobs are those of each machine
pub jobs_counted : (d : DiskModel) (c : RunningCore) (left : ℕ) (kind : JobKind) (count : ℕ) → ∥ ShowsLeft d c left ∥₁ → ((m : Machine) → ShowsMachine d c m → count ≡ jobs_of kind m) → count ≡ jobs_left kind c
jobs_counted d c left kind count shows is = ∥∥₁_elim shows (Coded-set coded_ℕ _ _) (λ was. is was.machine was.may.shows ∙ jobs_shown kind d c was.machine was.may.shows)
