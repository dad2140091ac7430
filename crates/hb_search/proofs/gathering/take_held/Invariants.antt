use Rattle.std.proofs.Common.{◌≡◌, ◌++◌, take, filter}
use Rattle.hb_space.specs.Boxes.{holds}
use Rattle.hb_search.proofs.gathering.take_held.Given as goal

abbrev pub invariant-loop-record : goal.invariant-loop-record
invariant-loop-record l = l.found.items ≡ l.fn.found.items ++ filter (λ r. holds l.at_hand r.key) (take l.record-index l.records)
