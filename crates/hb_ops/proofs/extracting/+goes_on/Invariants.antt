use Rattle.std.proofs.Common.{length}
use Rattle.hb_ops.proofs.extracting.+goes_on.Given as goal

abbrev pub decreases-goes_on : goal.decreases-goes_on
decreases-goes_on a = length a.cuts.now
