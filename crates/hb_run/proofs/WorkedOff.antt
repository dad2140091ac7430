-- A run of threads ends.
use Rattle.std.proofs.Common.{◌≡◌, ℕ, ◌+◌, ◌==◌, true, false, ◌&&◌, length, List, Option, None, is_some, ap, arith}
use Rattle.std.proofs.lemmas.Bool.{and_parts, eqb-true}
use Rattle.hb_activity.specs.declared.jobs.JobKind.TheVariants.{Post, Merge}
use Rattle.hb_steps.specs.Machines.{Machine}
use Rattle.hb_core.specs.Runs.{HasRun, left_count}
use Rattle.hb_disk.specs.Model.{DiskModel}
use Rattle.hb_store.specs.declared.stops.StopWhy.{StopWhy}
use Rattle.hb_run.specs.Courses.{Course}
use Rattle.hb_run.specs.Running.{IsWorkedOff}
use Rattle.hb_run.specs.Turning.{is_done, jobs_left}
use Rattle.hb_run.proofs.Going.{answers_are_as_many}

none_left : (answers left now lines : ℕ) → answers + now ≡ lines → answers + left ≡ lines → left ≡ 0 → now ≡ 0
none_left answers left now lines after kept none = omega (arith, after, kept, none)

-- what is done is worked off
pub worked_off : (d : DiskModel) (m : Machine) (actors : List ℕ) (c : Course) (run : HasRun d m actors c.answers c.disk c.core) → length c.answers + c.left ≡ left_count m → (c.core.stop ≡ None → is_done c ≡ true) → c.core.stop ≡ None → IsWorkedOff run.new c.core
worked_off d m actors c run left_is done runs =
    let parts = and_parts ((c.left == 0) && (jobs_left Post c.core == 0)) (jobs_left Merge c.core == 0) (done runs) in
    let first = and_parts (c.left == 0) (jobs_left Post c.core == 0) parts.0 in
    record {
      answered = none_left (length c.answers) c.left (left_count run.new) (left_count m) (answers_are_as_many d c.disk m actors c.answers c.core run) left_is (eqb-true c.left 0 first.0);
      posted = eqb-true (jobs_left Post c.core) 0 first.1;
      merged = eqb-true (jobs_left Merge c.core) 0 parts.1;
    }

-- a core that runs isn't stopped
pub runs_on : (stop : Option StopWhy) → stop ≡ None → is_some stop ≡ false
runs_on stop none = ap (λ (o : Option StopWhy). is_some o) none
