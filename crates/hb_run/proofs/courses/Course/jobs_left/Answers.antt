use Rattle.hb_activity.specs.declared.jobs.JobKind.TheVariants.{Post, Merge}
use Rattle.hb_core.specs.CoreSeen.{core_seen, core_disk}
use Rattle.hb_run.proofs.Looking.{jobs_counted}
use Rattle.hb_run.proofs.courses.Course.jobs_left.Goals as goal

pub returns-in-Post : goal.returns-in-Post
returns-in-Post g c =
    rw c.in-Post.is (jobs_counted (g.D.Device.model (core_disk c.args.self.now.core)) (core_seen c.args.self.now.core) c.args.self.now.left Post c.jobs.result c.args.self.now.shows c.jobs.ensures)

pub returns-in-Merge : goal.returns-in-Merge
returns-in-Merge g c =
    rw c.in-Merge.is (jobs_counted (g.D.Device.model (core_disk c.args.self.now.core)) (core_seen c.args.self.now.core) c.args.self.now.left Merge c.jobs-in-Merge.result c.args.self.now.shows c.jobs-in-Merge.ensures)
