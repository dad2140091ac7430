use Rattle.std.proofs.Common.{◌≤◌}
use Rattle.hbpi.proofs.file_disk.zero_at.Given as goal

abbrev pub invariant-loop-left : goal.invariant-loop-left
invariant-loop-left l = l.left ≤ l.fn.len

abbrev pub decreases-loop-left : goal.decreases-loop-left
decreases-loop-left l = l.left
