use Rattle.std.proofs.Common.{◌≡◌, take}
use Rattle.hb_frag.proofs.records.copies.Given as goal

abbrev pub invariant-loop-record : goal.invariant-loop-record
invariant-loop-record l = l.records.items ≡ take l.record-index l.source
