use Rattle.std.proofs.Common.{◌≡◌, ◌+◌, ◌*◌, ◌≤◌, ◌++◌, drop, length}
use Rattle.hb_map.specs.Map.{corners_text}
use Rattle.hb_map.proofs.lines.add_corners.Given as goal

abbrev pub invariant-loop-low : goal.invariant-loop-low
invariant-loop-low l = record {
  added : l.line.bytes.items ++ corners_text (drop (length l.yielded) l.lo) (drop (length l.yielded) l.hi) ≡ l.fn.line.bytes.items ++ corners_text l.lo l.hi;
  short : length l.line.bytes.items ≤ length l.fn.line.bytes.items + 42 * length l.yielded;
}
