use Rattle.std.proofs.Common.{◌≡◌, take, filter}
use Rattle.hb_ops.specs.Cutting.{is_on}
use Rattle.hb_split.proofs.parting.going.Given as goal

abbrev pub invariant-loop-record : goal.invariant-loop-record
invariant-loop-record l = l.on.items ≡ filter (is_on l.cut.side l.cut.axis l.cut.value) (take l.record-index l.records)
