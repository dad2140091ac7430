-- Where a frame begins: its gate, its length, and the bytes behind these.
use Rattle.std.proofs.Common.{◌≡◌, inl, inr, ℕ, ◌<◌, ◌^◌, List, [], ◌∷◌, ◌++◌, length, get_or, drop, sym, ap, ◌∙◌, append_assoc, length-append, arith}
use Rattle.hb_lemmas.specs.Numbers.{big_endian}
use Rattle.hb_lemmas.proofs.Lists.{same_fronts}
use Rattle.hb_lemmas.proofs.Numbers.{length_big_endian, same_number}
use Rattle.hb_disk.specs.Calls.{open_gate}
use Rattle.hb_wal.specs.Frames.{frame_bytes, IsBadFrame, IsEnd, IsPayload}

-- a frame, so taken apart
pub head_of : (p xs : List ℕ) → frame_bytes p ++ xs ≡ open_gate ∷ big_endian 4 (length p) ++ (p ++ xs)
head_of p xs = ap (λ (l : List ℕ). open_gate ∷ l) (append_assoc (big_endian 4 (length p)) p xs)

same_head : (m n : ℕ) (xs ys : List ℕ) → m < 2 ^ 32 → n < 2 ^ 32 → open_gate ∷ big_endian 4 m ++ xs ≡ open_gate ∷ big_endian 4 n ++ ys → (m ≡ n) × (xs ≡ ys)
same_head m n xs ys m_short n_short e = same_number m n xs ys m_short n_short (ap (λ (l : List ℕ). drop 1 l) e)

-- a frame tells its payload and what is behind it
pub same_frame : (p q xs ys : List ℕ) → length p < 2 ^ 32 → length q < 2 ^ 32 → frame_bytes p ++ xs ≡ frame_bytes q ++ ys → (p ≡ q) × (xs ≡ ys)
same_frame p q xs ys p_short q_short e =
    let heads = same_head (length p) (length q) (p ++ xs) (q ++ ys) p_short q_short (sym (head_of p xs) ∙ e ∙ head_of q ys) in
    same_fronts p q xs ys heads.0 heads.1

-- nothing begins at an end
pub no_head_at_end : (n : ℕ) (xs rest : List ℕ) → IsEnd rest → rest ≡ open_gate ∷ big_endian 4 n ++ xs → ⊥
no_head_at_end n xs [] end e = absurd (omega (arith, ap (λ (l : List ℕ). length l) e))
no_head_at_end n xs (gate ∷ rest) (inl few) e = absurd (omega (arith, few, ap (λ (l : List ℕ). length l) e, length-append (big_endian 4 n) xs, length_big_endian 4 n))
no_head_at_end n xs (gate ∷ rest) (inr closed) e = closed (ap (λ (l : List ℕ). get_or l 0 0) e)

-- a whole frame isn't a bad one
pub no_frame_at_bad : (p xs rest : List ℕ) → IsPayload p → rest ≡ frame_bytes p ++ xs → IsBadFrame rest → ⊥
no_frame_at_bad p xs rest fit e bad =
    let heads = same_head bad.len (length p) bad.behind (p ++ xs) bad.fits fit.short (sym bad.bytes ∙ e ∙ head_of p xs) in
    elim bad.bad [
      | inl none ↦ absurd (omega (arith, none, heads.0, fit.some))
      | inr few ↦ absurd (omega (arith, few, heads.0, ap (λ (l : List ℕ). length l) heads.1, length-append p xs))
    ]
