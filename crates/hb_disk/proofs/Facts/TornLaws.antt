-- What follows of bytes that are torn, place by place.
use Rattle.std.proofs.Common.{◌≡◌, ◌⊎◌, inl, inr, ℕ, ◌+◌, ◌-◌, ◌^◌, ◌<◌, ◌≤◌, List, length, take, drop, get_or, refl, sym, ap, ◌∙◌, subst, arith, length-take, length-drop}
use Rattle.std.specs.List.{All}
use Rattle.std.proofs.lemmas.Bool.{cases_lt}
use Rattle.std.proofs.lemmas.List.{get_or-take, get_or-drop, ext_get_or}
use Rattle.hb_disk.specs.Model.{Torn}
use Rattle.hb_disk.specs.Calls.{Apart}

-- a place is outside a range of n from at on
abbrev pub IsOutside : ℕ → ℕ → ℕ → Type 0
IsOutside at n i = (i < at) ⊎ (at + n ≤ i)

-- a place is within a range or outside it
pub cases_range : (at n i : ℕ) → ((at ≤ i) × (i < at + n)) ⊎ IsOutside at n i
cases_range at n i = elim (cases_lt i at) [
  | inl front ↦ inr (inl front)
  | inr from ↦ elim (cases_lt i (at + n)) [ inl within ↦ inl (from, within) | inr behind ↦ inr (inr behind) ]
]

-- bytes are torn in a range where they are as long, and the same outside it
pub Torn-from : (at n : ℕ) (before after : List ℕ) → length after ≡ length before → All (λ x. x < 2 ^ 8) after
    → ((i : ℕ) → i < length after → IsOutside at n i → get_or after i 0 ≡ get_or before i 0) → Torn at n before after
Torn-from at n before after long bytes same = record {
  in_front = ext_get_or 0 (take at after) (take at before) (omega (arith, length-take at after, length-take at before, long))
      (λ i h.
      let here : i < at = omega (arith, length-take at after, h) in
      let near : i < length after = omega (arith, length-take at after, h) in
      get_or-take at after i 0 here ∙ same i near (inl here) ∙ sym (get_or-take at before i 0 here));
  behind = ext_get_or 0 (drop (at + n) after) (drop (at + n) before) (omega (arith, length-drop (at + n) after, length-drop (at + n) before, long))
      (λ i h.
      let near : at + n + i < length after = omega (arith, length-drop (at + n) after, h) in
      get_or-drop (at + n) after i 0 ∙ same (at + n + i) near (inr (omega arith)) ∙ sym (get_or-drop (at + n) before i 0));
  as_long = long;
  bytes = bytes;
}

-- outside the range each byte is the same
pub Torn-same : (at n : ℕ) (before after : List ℕ) → Torn at n before after → (i : ℕ) → IsOutside at n i → get_or after i 0 ≡ get_or before i 0
Torn-same at n before after torn i (inl front) =
    sym (get_or-take at after i 0 front) ∙ ap (λ (l : List ℕ). get_or l i 0) torn.in_front ∙ get_or-take at before i 0 front
Torn-same at n before after torn i (inr behind) =
    let e : at + n + (i - (at + n)) ≡ i = omega arith in
    let at_end : get_or after (at + n + (i - (at + n))) 0 ≡ get_or before (at + n + (i - (at + n))) 0 =
    sym (get_or-drop (at + n) after (i - (at + n)) 0) ∙ ap (λ (l : List ℕ). get_or l (i - (at + n)) 0) torn.behind ∙ get_or-drop (at + n) before (i - (at + n)) 0 in
    subst (λ j. get_or after j 0 ≡ get_or before j 0) e at_end

-- a list that is torn in no range is the same
pub Torn-none : (at : ℕ) (before after : List ℕ) → Torn at 0 before after → after ≡ before
Torn-none at before after torn = ext_get_or 0 after before torn.as_long (λ i h.
    Torn-same at 0 before after torn i (elim (cases_lt i at) [ inl front ↦ inl front | inr behind ↦ inr (omega arith) ]))

-- bytes are torn of themselves in any range
pub Torn-itself : (at n : ℕ) (bytes : List ℕ) → All (λ x. x < 2 ^ 8) bytes → Torn at n bytes bytes
Torn-itself at n bytes fit = Torn-from at n bytes bytes refl fit (λ i h outside. refl)

-- a range within a wider one
pub Torn-wider : (at n from m : ℕ) (before after : List ℕ) → from ≤ at → at + n ≤ from + m → Torn at n before after → Torn from m before after
Torn-wider at n from m before after low high torn = Torn-from from m before after torn.as_long torn.bytes (λ i h outside.
    Torn-same at n before after torn i (elim outside [ inl front ↦ inl (omega arith) | inr behind ↦ inr (omega arith) ]))

-- torn twice in one range is torn in it
pub Torn-twice : (at n : ℕ) (a b c : List ℕ) → Torn at n a b → Torn at n b c → Torn at n a c
Torn-twice at n a b c first second = Torn-from at n a c (second.as_long ∙ first.as_long) second.bytes (λ i h outside.
    Torn-same at n b c second i outside ∙ Torn-same at n a b first i outside)

-- a part of the bytes that the torn range doesn't meet is as it was
pub Torn-elsewhere : (at n from m : ℕ) (before after : List ℕ) → Apart from m at n → Torn at n before after
    → take m (drop from after) ≡ take m (drop from before)
Torn-elsewhere at n from m before after apart torn =
    let long : length (take m (drop from after)) ≡ length (take m (drop from before)) = omega (arith, length-take m (drop from after), length-take m (drop from before), length-drop from after, length-drop from before, torn.as_long) in
    ext_get_or 0 (take m (drop from after)) (take m (drop from before)) long (λ i h.
    let here : i < m = omega (arith, length-take m (drop from after), h) in
    let outside : IsOutside at n (from + i) = elim apart [ inl front ↦ inl (omega arith) | inr behind ↦ inr (omega arith) ] in
    get_or-take m (drop from after) i 0 here ∙ get_or-drop from after i 0 ∙ Torn-same at n before after torn (from + i) outside
    ∙ sym (get_or-drop from before i 0) ∙ sym (get_or-take m (drop from before) i 0 here))
