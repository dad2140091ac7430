use Rattle.hb_view.specs.Corners.{point_there}
use Rattle.hb_view.proofs.Followed.{ComparesSoFar, LieBetween}
use Rattle.hb_view.proofs.well_made.follows_there.Given as goal

-- the values so far lie between those of the corners, and tell how the points compare, or else those that are left do
abbrev pub invariant-loop-axis : goal.invariant-loop-axis
invariant-loop-axis l = record {
  between : LieBetween l.lo l.hi (point_there l.k.number l.key) l.axis;
  so_far : ComparesSoFar (point_there l.k.number l.last) (point_there l.k.number l.key) l.axis l.order;
}
