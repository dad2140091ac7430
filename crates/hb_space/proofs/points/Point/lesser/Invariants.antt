use Rattle.std.proofs.Common.{◌≡◌, take, min}
use Rattle.hb_space.specs.Boxes.{zip_by}
use Rattle.hb_space.proofs.points.Point.lesser.Given as goal

abbrev pub invariant-loop-axis : goal.invariant-loop-axis
invariant-loop-axis l = l.values.items ≡ take l.axis (zip_by min l.self l.others)
