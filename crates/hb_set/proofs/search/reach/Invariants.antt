use Rattle.std.proofs.Common.{length, ◌-◌, ◌≤◌}
use Rattle.hb_set.proofs.search.reach.Given as goal

abbrev pub invariant-loop-count : goal.invariant-loop-count
invariant-loop-count l = 1 ≤ l.count

abbrev pub decreases-loop-count : goal.decreases-loop-count
decreases-loop-count l = length l.records - l.count
