use Rattle.std.proofs.Common.{◌≡◌, ℕ, ◌+◌, ◌<◌, ◌≤◌, length, get_or, take}
use Rattle.hb_map.proofs.Namings.{times}
use Rattle.hb_map.proofs.parents.count_page.Given as goal

abbrev pub invariant-loop-child : goal.invariant-loop-child
invariant-loop-child l = record {
  long : length l.parents ≡ length l.fn.parents;
  counted : (place : ℕ) → place < length l.fn.parents → get_or l.parents place 0 ≡ get_or l.fn.parents place 0 + times (place + 1) (take l.child-index l.child-items);
  room : (place : ℕ) → get_or l.parents place 0 ≤ get_or l.fn.parents place 0 + times (place + 1) (take l.child-index l.child-items);
}
