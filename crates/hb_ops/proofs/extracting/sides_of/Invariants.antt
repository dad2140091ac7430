use Rattle.std.proofs.Common.{◌≡◌, filter}
use Rattle.hb_ops.specs.Cutting.{is_on, other_side}
use Rattle.hb_ops.proofs.extracting.sides_of.Given as goal

abbrev pub invariant-loop-each : goal.invariant-loop-each
invariant-loop-each l =
    (l.on.items ≡ filter (is_on l.cut.side l.cut.axis l.cut.value) l.yielded)
    × (l.off.items ≡ filter (is_on (other_side l.cut.side) l.cut.axis l.cut.value) l.yielded)
