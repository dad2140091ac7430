use Rattle.std.proofs.Common.{◌≡◌, ◌<◌, ℕ, false, get_or}
use Rattle.hb_pool.specs.Slots.{empty_slot}
use Rattle.hb_pool.proofs.pools.first_dirty.Given as goal

-- none before it is dirty
abbrev pub invariant-loop-place : goal.invariant-loop-place
invariant-loop-place l = (k : ℕ) → k < l.place → (get_or l.slots (get_or l.order k 0) empty_slot).dirty ≡ false
