-- How long a superblock is, and where no body of a turn stands.
use Rattle.std.proofs.Common.{◌≡◌, ℕ, ◌+◌, ◌≤◌, List, take, drop, get_or, sym, ap, ◌∙◌, arith, length, refl, ◌∷◌}
use Rattle.std.proofs.lemmas.List.{get_or-take, get_or-drop}
use Rattle.hb_disk.proofs.Facts.SyncedLaws.{part_of}
use Rattle.hb_layout.specs.declared.meta.Meta.{Meta}
use Rattle.hb_layout.specs.Offsets.{slot_offset}
use Rattle.hb_super.specs.Superblocks.{body_bytes, next_turn}
use Rattle.hb_super.specs.Moments.{HasNoBody, HidesNoOther}
use Rattle.hb_lemmas.specs.Numbers.{big_endian}
use Rattle.hb_disk.specs.Calls.{open_gate}

-- a superblock's gate and body are 41 bytes
pub frame_long : (turn : ℕ) (meta : Meta) → length (open_gate ∷ body_bytes turn meta) ≡ 41
unfolding big_endian
frame_long turn meta = refl

-- what stands in the place, if anything, is the same
pub HasNoBody-same : (b c : List ℕ) (turn : ℕ) → take 40 (drop (slot_offset turn + 1) c) ≡ take 40 (drop (slot_offset turn + 1) b) → HasNoBody b turn → HasNoBody c turn
HasNoBody-same b c turn same none said is = none said (sym same ∙ is)

pub HasNoBody-elsewhere : (b c : List ℕ) (turn : ℕ) → take 8192 (drop 0 c) ≡ take 8192 (drop 0 b) → HasNoBody b turn → HasNoBody c turn
HasNoBody-elsewhere b c turn same = HasNoBody-same b c turn (part_of 0 8192 (slot_offset turn + 1) 40 c b (omega arith) (omega arith) same)

-- The place of a turn is that of the turn after the next. Where it has a body of the one, it has none of the other.
pub HasNoBody-other : (bytes : List ℕ) (old turn : ℕ) (meta : Meta) → old ≤ 3 → turn ≡ next_turn (next_turn old) → take 40 (drop (slot_offset old + 1) bytes) ≡ body_bytes old meta → HasNoBody bytes turn
HasNoBody-other bytes old turn meta small after body said is =
    let place : slot_offset old ≡ slot_offset turn = omega (arith, after) in
    let same : body_bytes old meta ≡ body_bytes turn said = sym body ∙ ap (λ (at : ℕ). take 40 (drop (at + 1) bytes)) place ∙ is in
    -- the tenth byte is the turn
    let turns : old ≡ turn = ap (λ (l : List ℕ). get_or l 9 0) same in
    omega (arith, small, after, turns)

-- a body doesn't begin with a zero
pub HasNoBody-zero : (bytes : List ℕ) (turn : ℕ) → get_or bytes (slot_offset turn + 1) 0 ≡ 0 → HasNoBody bytes turn
HasNoBody-zero bytes turn zero said is =
    let at = slot_offset turn + 1 in
    let first : get_or (take 40 (drop at bytes)) 0 0 ≡ get_or bytes (at + 0) 0 = get_or-take 40 (drop at bytes) 0 0 (omega arith) ∙ get_or-drop at bytes 0 0 in
    let here : at + 0 ≡ at = omega arith in
    let never : 0x48 ≡ 0 = ap (λ (l : List ℕ). get_or l 0 0) (sym is) ∙ first ∙ ap (λ (i : ℕ). get_or bytes i 0) here ∙ zero in
    omega (arith, never)

-- a place without a body hides none
pub HasNoBody-hides : (bytes : List ℕ) (turn : ℕ) (meta : Meta) → HasNoBody bytes turn → HidesNoOther bytes turn meta
HasNoBody-hides bytes turn meta none closed said legal is = absurd (none said is)
