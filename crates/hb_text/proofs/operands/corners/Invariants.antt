use Rattle.std.proofs.Common.{◌≡◌, ◌+◌, ◌*◌, ◌≤◌, ◌++◌, length}
use Rattle.hb_text.specs.Operands.{lows, highs}
use Rattle.hb_text.proofs.operands.corners.Given as goal

-- the corners so far, and what the rest gives
abbrev pub invariant-loop-rest : goal.invariant-loop-rest
invariant-loop-rest l = record {
  lower : l.lower.items ++ lows l.rest ≡ lows l.values;
  upper : l.upper.items ++ highs l.rest ≡ highs l.values;
  lower_room : 2 * length l.lower.items + length l.rest ≤ 8;
  upper_room : 2 * length l.upper.items + length l.rest ≤ 8;
}

abbrev pub decreases-loop-rest : goal.decreases-loop-rest
decreases-loop-rest l = length l.rest
