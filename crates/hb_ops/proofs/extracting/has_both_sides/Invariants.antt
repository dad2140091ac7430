use Rattle.std.proofs.Common.{◌≡◌, ◌≤◌, ◌+◌, length, take, filter}
use Rattle.hb_ops.specs.Cutting.{is_on, other_side, goes_on}
use Rattle.hb_ops.proofs.extracting.has_both_sides.Given as goal

abbrev pub invariant-loop-each : goal.invariant-loop-each
invariant-loop-each l =
    (l.on ≡ length (filter (is_on l.cut.side l.cut.axis l.cut.value) (filter (goes_on l.before) (take l.each-index l.records))))
    × (l.off ≡ length (filter (is_on (other_side l.cut.side) l.cut.axis l.cut.value) (filter (goes_on l.before) (take l.each-index l.records))))
    × (l.on + l.off ≤ l.each-index)
