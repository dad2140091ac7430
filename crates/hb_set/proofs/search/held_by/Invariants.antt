use Rattle.std.proofs.Common.{◌≡◌, ◌++◌, length, filter}
use Rattle.hb_space.specs.Boxes.{holds}
use Rattle.hb_set.specs.Kept.{records_behind, AreSearchable}
use Rattle.hb_set.proofs.search.held_by.Given as goal

-- what is held so far, and what the rest holds, is all
abbrev pub invariant-loop-record : goal.invariant-loop-record
invariant-loop-record l = (l.held.items ++ filter (λ r. holds l.area r.key) (records_behind l.rest) ≡ filter (λ r. holds l.area r.key) (records_behind l.records)) × AreSearchable (length l.area.lo) l.rest

abbrev pub decreases-loop-record : goal.decreases-loop-record
decreases-loop-record l = length l.rest
