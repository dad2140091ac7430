-- What is decided of boxes: whether something is of each number below another, whether a box lies within another, and whether two are the same.
use Rattle.std.proofs.Common.{inl, inr, ℕ, zero, suc, ◌<◌, length, sym, subst, arith, ◌≡◌, ap}
use Rattle.std.proofs.lemmas.Bool.{cases_eq}
use Rattle.hb_lemmas.proofs.Decisions.{Known, both, known_le, known_list}
use Rattle.hb_space.specs.Boxes.{Area, Within}
use Rattle.hb_space.proofs.Facts.Boxes.{same_corners}

pub known_up_to : (P : ℕ → Type 0) → ((i : ℕ) → Known (P i)) → (n : ℕ) → Known ((i : ℕ) → i < n → P i)
known_up_to P know zero = inl (λ i lt. absurd (omega (arith, lt)))
known_up_to P know (suc n) = elim (known_up_to P know n) [
  | inr fails ↦ inr (λ every. fails (λ i lt. every i (omega (arith, lt))))
  | inl all ↦ elim (know n) [
    | inl here ↦ inl (λ i lt. elim (cases_eq i n) [ inl e ↦ subst P (sym e) here | inr other ↦ all i (omega (arith, lt, other)) ])
    | inr fails ↦ inr (λ every. fails (every n (omega arith)))
  ]
]

pub known_within : (a b : Area) → Known (Within a b)
known_within a b = known_up_to _ (λ i. both (known_le _ _) (known_le _ _)) (length a.lo)

pub known_area : (a b : Area) → Known (a ≡ b)
known_area a b = elim (both (known_list a.lo b.lo) (known_list a.hi b.hi)) [
  | inl is ↦ inl (same_corners a b is.0 is.1)
  | inr fails ↦ inr (λ e. fails (ap (λ (x : Area). x.lo) e, ap (λ (x : Area). x.hi) e))
]
