use Rattle.std.proofs.Common.{length}
use Rattle.hb_ops.proofs.extracting.+reached_area.Given as goal

abbrev pub decreases-reached_area : goal.decreases-reached_area
decreases-reached_area a = length a.cuts.now
