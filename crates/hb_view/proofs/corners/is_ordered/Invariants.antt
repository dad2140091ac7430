use Rattle.std.proofs.Common.{◌≤◌, ℕ, ◌<◌, get_or}
use Rattle.hb_view.specs.Corners.{point_there}
use Rattle.hb_view.proofs.corners.is_ordered.Given as goal

-- the values so far are in order
abbrev pub invariant-loop-axis : goal.invariant-loop-axis
invariant-loop-axis l = (j : ℕ) → j < l.axis → get_or (point_there l.k.number l.lo) j 0 ≤ get_or (point_there l.k.number l.hi) j 0
