use Rattle.std.proofs.Common.{refl}
use Rattle.hb_core.proofs.Facts.BetweenCalls.{job_waits}
use Rattle.hb_core.proofs.Running.Queueing.{added}
use Rattle.hb_core.specs.CoreSeen.{core_disk, core_seen}
use Rattle.hb_core.proofs.state.Core.add_job.Goals as goal

pub returns-clause-queue : goal.returns-clause-queue
returns-clause-queue g c = record {
  does = record { adds = added c.args.self.now.jobs c.add.new.self c.args.job c.add.result c.add.ensures.waits c.add.ensures.there c.add.ensures.joins c.add.ensures.dropped; rest = refl };
  disk = refl;
}

pub returns-clause-goes_on : goal.returns-clause-goes_on
returns-clause-goes_on g c m step =
    job_waits (g.D.Device.model (core_disk c.args.self.now)) (core_seen c.args.self.now) m c.args.job c.add.new.self c.requires
    (added c.args.self.now.jobs c.add.new.self c.args.job c.add.result c.add.ensures.waits c.add.ensures.there c.add.ensures.joins c.add.ensures.dropped) step
