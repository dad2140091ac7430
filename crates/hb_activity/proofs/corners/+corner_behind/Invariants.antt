use Rattle.std.proofs.Common.{length}
use Rattle.hb_activity.proofs.corners.+corner_behind.Given as goal

abbrev pub decreases-corner_behind : goal.decreases-corner_behind
decreases-corner_behind l = length l.cuts.now
