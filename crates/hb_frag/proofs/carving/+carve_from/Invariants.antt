-- How many attributes are left.
use Rattle.std.proofs.Common.{◌-◌, length}
use Rattle.hb_frag.proofs.carving.+carve_from.Given as goal

abbrev pub decreases-carve_from : goal.decreases-carve_from
decreases-carve_from l = length l.leaf.now.lo - l.axis
