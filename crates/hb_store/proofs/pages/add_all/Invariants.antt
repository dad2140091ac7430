use Rattle.std.proofs.Common.{◌≡◌, ℕ, drop}
use Rattle.std.specs.Prelude.{◌||◌}
use Rattle.std.specs.FinSet as set
use Rattle.hb_store.specs.Replay.{is_among}
use Rattle.hb_store.proofs.pages.add_all.Given as goal

-- to add the rest is to add all from the beginning
abbrev pub invariant-loop-id : goal.invariant-loop-id
invariant-loop-id l = (q : ℕ) → (is_among q (drop l.id-index l.ids) || set.contains l.in_log q) ≡ (is_among q l.ids || set.contains l.fn.in_log q)
