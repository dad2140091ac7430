use Rattle.std.proofs.Common.{ℕ, ◌<◌, ◌≤◌, get_or}
use Rattle.hb_view.proofs.order.holds.Given as goal

-- the values so far lie between those of the corners
abbrev pub invariant-loop-at : goal.invariant-loop-at
invariant-loop-at l = (i : ℕ) → i < l.at → (get_or l.lo i 0 ≤ get_or l.p i 0) × (get_or l.p i 0 ≤ get_or l.hi i 0)
