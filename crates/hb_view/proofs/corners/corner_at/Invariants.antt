use Rattle.std.proofs.Common.{◌≡◌, take}
use Rattle.hb_view.specs.Corners.{point_there}
use Rattle.hb_view.proofs.corners.corner_at.Given as goal

-- the values so far
abbrev pub invariant-loop-axis : goal.invariant-loop-axis
invariant-loop-axis l = l.corner.items ≡ take l.axis (point_there l.k.number l.bytes)
