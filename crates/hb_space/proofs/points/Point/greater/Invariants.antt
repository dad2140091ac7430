use Rattle.std.proofs.Common.{◌≡◌, take, max}
use Rattle.hb_space.specs.Boxes.{zip_by}
use Rattle.hb_space.proofs.points.Point.greater.Given as goal

abbrev pub invariant-loop-axis : goal.invariant-loop-axis
invariant-loop-axis l = l.values.items ≡ take l.axis (zip_by max l.self l.others)
