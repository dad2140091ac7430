use Rattle.std.proofs.Common.{refl}
use Rattle.std.proofs.Common.{sym, ◌∙◌}
use Rattle.hb_core.proofs.Running.Queueing.{first_added}
use Rattle.hb_core.proofs.state.Core.add_first.Goals as goal

pub returns-then-not-is_empty-clause-jobs : goal.returns-then-not-is_empty-clause-jobs
returns-then-not-is_empty-clause-jobs g c = record {
  does = record {
    adds = first_added c.args.jobs.now.items c.remove.result c.args.self.now.jobs c.add.new.self c.add.result (sym c.if-not-is_empty.true ∙ c.is_empty.ensures) c.remove.ensures.value c.add.ensures.waits c.add.ensures.there c.add.ensures.joins c.add.ensures.dropped;
    rest = refl;
  };
  disk = refl;
}
