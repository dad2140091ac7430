use Rattle.hb_core.proofs.Running.Latching.{few_again}
use Rattle.hb_core.proofs.state.Core.latch_all.Goals as goal

pub take-requires-in-len2-2-clause-few : goal.take-requires-in-len2-2-clause-few
take-requires-in-len2-2-clause-few g c =
    few_again c.args.self.now.latches c.release_all.new.self c.take-in-len2.new.latches c.args.actor _ _ c.each_latch_counts_once.ensures.taken c.release_all.ensures.left c.release_all.ensures.none c.take-in-len2.ensures
