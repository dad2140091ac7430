use Rattle.std.proofs.Common.{length}
use Rattle.hb_ops.proofs.extracting.+cut_through.Given as goal

abbrev pub decreases-cut_through : goal.decreases-cut_through
decreases-cut_through a = length a.cuts.now
