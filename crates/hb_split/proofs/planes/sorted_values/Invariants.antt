use Rattle.std.proofs.Common.{◌≡◌, take, map, slice_index}
use Rattle.hb_split.proofs.planes.sorted_values.Given as goal

abbrev pub invariant-loop-record : goal.invariant-loop-record
invariant-loop-record l = l.values.items ≡ map (λ r. slice_index r.key l.axis) (take l.record-index l.records)
