use Rattle.std.proofs.Common.{◌≡◌, ℕ, ◌<◌, get_or}
use Rattle.hb_view.specs.Corners.{point_there}
use Rattle.hb_view.proofs.corners.compare.Given as goal

-- the values so far are the same
abbrev pub invariant-loop-axis : goal.invariant-loop-axis
invariant-loop-axis l = (j : ℕ) → j < l.axis → get_or (point_there l.k.number l.bytes) j 0 ≡ get_or l.p j 0
