use Rattle.std.proofs.Common.{◌≡◌, ◌++◌, take}
use Rattle.hb_ops.proofs.edits.push_copies.Given as goal

abbrev pub invariant-loop-record : goal.invariant-loop-record
invariant-loop-record l = l.made.items ≡ l.initial.made.items ++ take l.record-index l.records
