use Rattle.hb_view.specs.Corners.{point_there}
use Rattle.hb_view.proofs.TakenWithin.{LiesTo}
use Rattle.hb_view.proofs.gathering.lies_in.Given as goal

-- the values so far lie between those of the corners
abbrev pub invariant-loop-axis : goal.invariant-loop-axis
invariant-loop-axis l = LiesTo l.axis (point_there l.k.number l.bytes) l.at_hand.lo l.at_hand.hi
