-- Two pieces that are written one after the other: side by side they are one, and apart either may be first.
use Rattle.std.proofs.Common.{◌≡◌, inl, inr, ℕ, ◌+◌, ◌-◌, ◌≤◌, List, ◌++◌, length, get_or, refl, sym, ap, ◌∙◌, arith, length-append}
use Rattle.std.proofs.lemmas.List.{get_or_append_left, get_or-append_right, ext_get_or}
use Rattle.hb_disk.specs.Model.{overwritten}
use Rattle.hb_disk.specs.Calls.{Apart}
use Rattle.hb_disk.proofs.Facts.TornLaws.{IsOutside, cases_range}
use Rattle.hb_disk.proofs.Facts.OverwrittenLaws.{length-overwritten, overwritten-inside, overwritten-outside}

-- two pieces side by side, the second written first, are one piece
pub overwritten-joined : (bytes : List ℕ) (at : ℕ) (p q : List ℕ) → at + length p + length q ≤ length bytes
    → overwritten (overwritten bytes (at + length p) q) at p ≡ overwritten bytes at (p ++ q)
overwritten-joined bytes at p q fits =
    let staged = overwritten bytes (at + length p) q in
    let both : length (p ++ q) ≡ length p + length q = length-append p q in
    let all_fit : at + length (p ++ q) ≤ length bytes = omega (arith, both, fits) in
    let long : length staged ≡ length bytes = length-overwritten bytes (at + length p) q fits in
    let first_fits : at + length p ≤ length staged = omega (arith, long, fits) in
    ext_get_or 0 (overwritten staged at p) (overwritten bytes at (p ++ q))
    (length-overwritten staged at p first_fits ∙ long ∙ sym (length-overwritten bytes at (p ++ q) all_fit))
    (λ i h. elim (cases_range at (length p) i) [
      | inl within ↦
          overwritten-inside staged at p first_fits i within.0 within.1
          ∙ sym (get_or_append_left p q 0 (i - at) (omega (arith, within.0, within.1)))
          ∙ sym (overwritten-inside bytes at (p ++ q) all_fit i within.0 (omega (arith, both, within.1)))
      | inr outside ↦
          overwritten-outside staged at p first_fits i outside
          ∙ elim (cases_range (at + length p) (length q) i) [
            | inl within ↦
                overwritten-inside bytes (at + length p) q fits i within.0 within.1
                ∙ ap (λ (j : ℕ). get_or q j 0) (minus_minus i at (length p))
                ∙ sym (get_or-append_right p q (length p) (i - at) 0 refl (omega (arith, within.0)))
                ∙ sym (overwritten-inside bytes at (p ++ q) all_fit i (omega (arith, within.0)) (omega (arith, both, within.1)))
            | inr beyond ↦
                overwritten-outside bytes (at + length p) q fits i beyond
                ∙ sym (overwritten-outside bytes at (p ++ q) all_fit i (beyond_both at p q i outside beyond))
          ]
    ])
  where
    minus_minus : (i a n : ℕ) → i - (a + n) ≡ i - a - n
    minus_minus i a n = omega arith

    beyond_both : (at : ℕ) (p q : List ℕ) (i : ℕ) → IsOutside at (length p) i → IsOutside (at + length p) (length q) i → IsOutside at (length (p ++ q)) i
    beyond_both at p q i (inl front) b = inl front
    beyond_both at p q i (inr behind) (inl front) = absurd (omega (arith, behind, front))
    beyond_both at p q i (inr behind) (inr after) = inr (omega (arith, after, length-append p q))

-- of two pieces in ranges that share no place it doesn't matter which is put first
pub overwritten-apart : (bytes : List ℕ) (at : ℕ) (p : List ℕ) (from : ℕ) (q : List ℕ) → at + length p ≤ length bytes → from + length q ≤ length bytes → Apart at (length p) from (length q)
    → overwritten (overwritten bytes at p) from q ≡ overwritten (overwritten bytes from q) at p
overwritten-apart bytes at p from q fits_p fits_q apart =
    let with_p = overwritten bytes at p in
    let with_q = overwritten bytes from q in
    let p_long : length with_p ≡ length bytes = length-overwritten bytes at p fits_p in
    let q_long : length with_q ≡ length bytes = length-overwritten bytes from q fits_q in
    let q_fits : from + length q ≤ length with_p = omega (arith, p_long, fits_q) in
    let p_fits : at + length p ≤ length with_q = omega (arith, q_long, fits_p) in
    ext_get_or 0 (overwritten with_p from q) (overwritten with_q at p)
    (length-overwritten with_p from q q_fits ∙ p_long ∙ sym q_long ∙ sym (length-overwritten with_q at p p_fits))
    (λ i h. elim (cases_range from (length q) i) [
      | inl within ↦
          let not_p : IsOutside at (length p) i = elim apart [ inl front ↦ inr (omega (arith, front, within.0)) | inr behind ↦ inl (omega (arith, behind, within.1)) ] in
          overwritten-inside with_p from q q_fits i within.0 within.1
          ∙ sym (overwritten-inside bytes from q fits_q i within.0 within.1)
          ∙ sym (overwritten-outside with_q at p p_fits i not_p)
      | inr not_q ↦
          overwritten-outside with_p from q q_fits i not_q
          ∙ elim (cases_range at (length p) i) [
            | inl within ↦
                overwritten-inside bytes at p fits_p i within.0 within.1 ∙ sym (overwritten-inside with_q at p p_fits i within.0 within.1)
            | inr not_p ↦
                overwritten-outside bytes at p fits_p i not_p
                ∙ sym (overwritten-outside bytes from q fits_q i not_q)
                ∙ sym (overwritten-outside with_q at p p_fits i not_p)
          ]
    ])
