-- What follows of bytes that are overwritten, place by place.
use Rattle.std.proofs.Common.{◌≡◌, inl, inr, ℕ, ◌+◌, ◌-◌, ◌^◌, ◌<◌, ◌≤◌, List, ◌++◌, length, take, drop, get_or, sym, ap, ◌∙◌, arith, length-append, length-take, length-drop}
use Rattle.std.specs.List.{All}
use Rattle.std.proofs.lemmas.List.{get_or-take, get_or-drop, get_or_append_left, get_or-append_right, length-take-le, ext_get_or}
use Rattle.std.proofs.lemmas.List.Elements.{All-append, All-take, All-drop}
use Rattle.hb_disk.specs.Model.{overwritten, Torn}
use Rattle.hb_disk.proofs.Facts.TornLaws.{IsOutside, cases_range, Torn-from, Torn-same}

-- the bytes with a piece in its place
module _ (bytes : List ℕ) (at : ℕ) (piece : List ℕ) (fits : at + length piece ≤ length bytes) where
  front_long : length (take at bytes) ≡ at
  front_long = length-take-le at bytes (omega (arith, fits))

  both_long : length (take at bytes ++ piece) ≡ at + length piece
  both_long = omega (arith, length-append (take at bytes) piece, front_long)

  pub length-overwritten : length (overwritten bytes at piece) ≡ length bytes
  length-overwritten =
      omega (arith, length-append (take at bytes ++ piece) (drop (at + length piece) bytes), both_long, length-drop (at + length piece) bytes, fits)

  pub overwritten-inside : (i : ℕ) → at ≤ i → i < at + length piece → get_or (overwritten bytes at piece) i 0 ≡ get_or piece (i - at) 0
  overwritten-inside i low high =
      get_or_append_left (take at bytes ++ piece) (drop (at + length piece) bytes) 0 i (omega (arith, both_long, high))
      ∙ get_or-append_right (take at bytes) piece at i 0 front_long low

  pub overwritten-outside : (i : ℕ) → IsOutside at (length piece) i → get_or (overwritten bytes at piece) i 0 ≡ get_or bytes i 0
  overwritten-outside i (inl front) =
      get_or_append_left (take at bytes ++ piece) (drop (at + length piece) bytes) 0 i (omega (arith, both_long, front))
      ∙ get_or_append_left (take at bytes) piece 0 i (omega (arith, front_long, front))
      ∙ get_or-take at bytes i 0 front
  overwritten-outside i (inr behind) =
      let e : at + length piece + (i - (at + length piece)) ≡ i = omega arith in
      get_or-append_right (take at bytes ++ piece) (drop (at + length piece) bytes) (at + length piece) i 0 both_long behind
      ∙ get_or-drop (at + length piece) bytes (i - (at + length piece)) 0
      ∙ ap (λ (j : ℕ). get_or bytes j 0) e

  pub All-overwritten : All (λ x. x < 2 ^ 8) bytes → All (λ x. x < 2 ^ 8) piece → All (λ x. x < 2 ^ 8) (overwritten bytes at piece)
  All-overwritten b p =
      All-append (λ x. x < 2 ^ 8) (take at bytes ++ piece) (drop (at + length piece) bytes)
      (All-append (λ x. x < 2 ^ 8) (take at bytes) piece (All-take (λ x. x < 2 ^ 8) at bytes b) p)
      (All-drop (λ x. x < 2 ^ 8) (at + length piece) bytes b)

  -- a disk that is overwritten is torn in that range
  pub Torn-overwritten : All (λ x. x < 2 ^ 8) bytes → All (λ x. x < 2 ^ 8) piece → Torn at (length piece) bytes (overwritten bytes at piece)
  Torn-overwritten b p = Torn-from at (length piece) bytes (overwritten bytes at piece) length-overwritten (All-overwritten b p) (λ i h. overwritten-outside i)

  -- what a read of the range then gives
  pub overwritten-reads : take (length piece) (drop at (overwritten bytes at piece)) ≡ piece
  overwritten-reads =
      let whole = overwritten bytes at piece in
      let long : length (take (length piece) (drop at whole)) ≡ length piece = omega (arith, length-take (length piece) (drop at whole), length-drop at whole, length-overwritten, fits) in
      ext_get_or 0 (take (length piece) (drop at whole)) piece long (λ i h.
      let here : i < length piece = omega (arith, long, h) in
      let e : at + i - at ≡ i = omega arith in
      get_or-take (length piece) (drop at whole) i 0 here ∙ get_or-drop at whole i 0
      ∙ overwritten-inside (at + i) (omega arith) (omega arith) ∙ ap (λ (j : ℕ). get_or piece j 0) e)

  -- bytes that are torn in the range and have the piece there have been overwritten
  pub overwritten-from : (after : List ℕ) → Torn at (length piece) bytes after → ((i : ℕ) → i < length piece → get_or after (at + i) 0 ≡ get_or piece i 0)
      → after ≡ overwritten bytes at piece
  overwritten-from after torn same = ext_get_or 0 after (overwritten bytes at piece) (torn.as_long ∙ sym length-overwritten) (λ i h.
      elim (cases_range at (length piece) i) [
        | inl within ↦
            let e : at + (i - at) ≡ i = omega (arith, within.0) in
            ap (λ (j : ℕ). get_or after j 0) (sym e) ∙ same (i - at) (omega (arith, within.0, within.1)) ∙ sym (overwritten-inside i within.0 within.1)
        | inr outside ↦ Torn-same at (length piece) bytes after torn i outside ∙ sym (overwritten-outside i outside)
      ])
