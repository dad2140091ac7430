-- The jobs that are left in a machine are those of the core that shows it.
use Rattle.std.proofs.Common.{◌≡◌, ◌+◌, List, Option, sym, ap, ◌∙◌, arith}
use Rattle.std.specs.Prelude.{count_by}
use Rattle.hb_activity.specs.Queue.{is_of}
use Rattle.hb_activity.specs.declared.activities.Activity.{Activity}
use Rattle.hb_activity.specs.declared.jobs.Job.{Job}
use Rattle.hb_activity.specs.declared.jobs.JobKind.{JobKind}
use Rattle.hb_activity.specs.declared.jobs.JobKind.TheVariants.{Post, Merge}
use Rattle.hb_steps.specs.Machines.{Machine}
use Rattle.hb_steps.specs.ProgressLaws.{jobs_of}
use Rattle.hb_core.specs.Showing.{RunningCore, ShowsMachine}
use Rattle.hb_steps.specs.ProgressLaws.{jobs_in_work, worker_for}
use Rattle.hb_disk.specs.Model.{DiskModel}
use Rattle.hb_run.specs.Turning.{in_work, jobs_left}
use Rattle.hb_space.specs.Actors.{IsActor}

is_worker : (kind : JobKind) → IsActor (worker_for kind)
is_worker Post = record { from_1 = omega arith; to_19 = omega arith }
is_worker Merge = record { from_1 = omega arith; to_19 = omega arith }

pub jobs_shown : (kind : JobKind) (d : DiskModel) (c : RunningCore) (m : Machine) → ShowsMachine d c m → jobs_of kind m ≡ jobs_left kind c
jobs_shown kind d c m shows =
    ap (λ (jobs : List Job). count_by (is_of kind) jobs + jobs_in_work (m.activity (worker_for kind))) shows.jobs
    ∙ ap (λ (a : Option Activity). count_by (is_of kind) c.jobs + in_work a) (sym (shows.activities (worker_for kind) (is_worker kind)))
