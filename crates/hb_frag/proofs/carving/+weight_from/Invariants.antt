-- How many attributes are left.
use Rattle.std.proofs.Common.{◌-◌, length}
use Rattle.hb_frag.proofs.carving.+weight_from.Given as goal

abbrev pub decreases-weight_from : goal.decreases-weight_from
decreases-weight_from l = length l.leaf.now.lo - l.axis
