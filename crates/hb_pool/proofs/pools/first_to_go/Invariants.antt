use Rattle.std.proofs.Common.{◌≡◌, ◌<◌, ℕ, false, get_or}
use Rattle.hb_pool.specs.Frames.{may_go}
use Rattle.hb_pool.specs.Slots.{empty_slot, framed}
use Rattle.hb_pool.proofs.pools.first_to_go.Given as goal

-- none before it may go
abbrev pub invariant-loop-place : goal.invariant-loop-place
invariant-loop-place l = (k : ℕ) → k < l.place → may_go (framed 0 (get_or l.slots (get_or l.order k 0) empty_slot)) ≡ false
