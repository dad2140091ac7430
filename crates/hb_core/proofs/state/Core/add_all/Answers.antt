use Rattle.std.proofs.Common.{◌∙◌, ap}
use Rattle.hb_core.specs.CoreSeen.{core_seen}
use Rattle.hb_core.specs.Moving.{with_jobs}
use Rattle.hb_core.proofs.Running.Queueing.{both_added}
use Rattle.hb_core.proofs.state.Core.add_all.Goals as goal

pub returns : goal.returns
returns g c = record {
  does = record {
    adds = both_added c.args.jobs.items c.add_first.new.jobs.items c.args.self.now.jobs c.add_first.new.self.jobs c.add_first-2.new.self.jobs c.requires c.add_first.ensures.left c.add_first.ensures.jobs.does.adds c.add_first-2.ensures.jobs.does.adds;
    rest = c.add_first-2.ensures.jobs.does.rest ∙ ap (with_jobs (core_seen c.add_first-2.new.self).jobs) c.add_first.ensures.jobs.does.rest;
  };
  disk = c.add_first-2.ensures.jobs.disk ∙ c.add_first.ensures.jobs.disk;
}
