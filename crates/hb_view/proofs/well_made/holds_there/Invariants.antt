use Rattle.hb_view.specs.Corners.{point_there}
use Rattle.hb_view.proofs.Followed.{LieBetween}
use Rattle.hb_view.proofs.well_made.holds_there.Given as goal

-- the values so far lie between those of the corners
abbrev pub invariant-loop-axis : goal.invariant-loop-axis
invariant-loop-axis l = LieBetween l.lo l.hi (point_there l.k.number l.key) l.axis
