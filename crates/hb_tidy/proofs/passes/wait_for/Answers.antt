use Rattle.hb_core.specs.CoreSeen.{core_seen, core_disk}
use Rattle.hb_tidy.proofs.JobsWaiting.{job_looks}
use Rattle.hb_tidy.proofs.ToDo.{adds_some}
use Rattle.hb_tidy.proofs.passes.wait_for.Goals as goal

pub returns-clause-looks : goal.returns-clause-looks
returns-clause-looks g c =
    let told = c.add_job-waits.ensures in
    job_looks g.D.Device.model (core_disk c.args.core.now) (core_seen c.args.core.now) (core_seen c.add_job-waits.new.self) c.args.job (g.met.D.Device.is_disk (core_disk c.args.core.now)) c.requires.may c.requires.known told.queue.does
    (core_disk c.add_job-waits.new.self) told.queue.disk told.goes_on

pub returns-clause-some : goal.returns-clause-some
returns-clause-some g c = adds_some c.args.job (core_seen c.args.core.now).jobs (core_seen c.add_job-waits.new.self).jobs c.add_job-waits.ensures.queue.does.adds
