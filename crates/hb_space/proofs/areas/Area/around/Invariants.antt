use Rattle.hb_space.proofs.Facts.Outside.{IsPeeled}
use Rattle.hb_space.proofs.areas.Area.around.Given as goal

abbrev pub invariant-loop-axis : goal.invariant-loop-axis
invariant-loop-axis l = IsPeeled l.self l.inner l.rest l.axis l.pieces.items
