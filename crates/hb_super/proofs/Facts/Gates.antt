-- What bytes that are the same in both superblock places have in common, and turns that follow each other.
use Rattle.std.proofs.Common.{◌≡◌, ℕ, List, take, drop, get_or, sym, ap, ◌∙◌, arith}
use Rattle.hb_disk.proofs.Facts.SyncedLaws.{part_of}
use Rattle.hb_layout.specs.declared.meta.Meta.{Meta}
use Rattle.hb_layout.specs.Offsets.{slot_offset}
use Rattle.hb_super.specs.Superblocks.{HasSuper, IsNewest, next_turn}
use Rattle.hb_super.proofs.Supers.{gate_at, same_place}

-- the place of a turn
place_part : (xs ys : List ℕ) → take 8192 (drop 0 xs) ≡ take 8192 (drop 0 ys) → (turn : ℕ) → take 41 (drop (slot_offset turn) xs) ≡ take 41 (drop (slot_offset turn) ys)
place_part xs ys same turn = part_of 0 8192 (slot_offset turn) 41 xs ys (omega arith) (omega arith) same

-- its gate
pub gate_part : (xs ys : List ℕ) → take 8192 (drop 0 xs) ≡ take 8192 (drop 0 ys) → (turn : ℕ) → get_or xs (slot_offset turn) 0 ≡ get_or ys (slot_offset turn) 0
gate_part xs ys same turn =
    sym (gate_at xs (slot_offset turn)) ∙ ap (λ (l : List ℕ). get_or l 0 0) (place_part xs ys same turn) ∙ gate_at ys (slot_offset turn)

-- its superblock
pub super_same : (b c : List ℕ) → take 8192 (drop 0 c) ≡ take 8192 (drop 0 b) → (turn : ℕ) (meta : Meta) → HasSuper b turn meta → HasSuper c turn meta
super_same b c same turn meta = same_place b c turn meta (place_part c b same turn)

-- and the newest of both
pub newest_same : (b c : List ℕ) → take 8192 (drop 0 c) ≡ take 8192 (drop 0 b) → (turn : ℕ) (meta : Meta) → IsNewest b turn meta → IsNewest c turn meta
newest_same b c same turn meta newest = record {
  there = super_same b c same turn meta newest.there;
  newer = λ other said has differs. newest.newer other said (super_same c b (sym same) other said has) differs;
}

-- no two turns come each after the other
pub never_both : (t s : ℕ) → t ≡ next_turn s → s ≡ next_turn t → ⊥
never_both t s next back = omega (arith, next, back)
