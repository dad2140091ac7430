-- What can be decided: it holds, or it doesn't.
use Rattle.std.proofs.Common.{◌≡◌, ◌⊎◌, inl, inr, ℕ, ◌<◌, ◌≤◌, List, sym, ◌∙◌, arith}
use Rattle.std.proofs.lemmas.Bool.{cases_Bool, cases_lt, true≢false}
use Rattle.std.proofs.lemmas.Slice.Eq.{bytes_eq-Decides}
use Rattle.std.specs.Str.{bytes_eq}

-- it holds, or it doesn't
abbrev pub Known : Type 0 → Type 0
Known P = P ⊎ (P → ⊥)

pub both : {P Q : Type 0} → Known P → Known Q → Known (P × Q)
both (inl p) (inl q) = inl (p, q)
both (inl p) (inr fails) = inr (λ pq. fails pq.1)
both (inr fails) q = inr (λ pq. fails pq.0)

pub known_le : (n m : ℕ) → Known (n ≤ m)
known_le n m = elim (cases_lt m n) [ inl above ↦ inr (λ le. absurd (omega (arith, above, le))) | inr le ↦ inl le ]

pub known_lt : (n m : ℕ) → Known (n < m)
known_lt n m = elim (cases_lt n m) [ inl lt ↦ inl lt | inr above ↦ inr (λ lt. absurd (omega (arith, above, lt))) ]

pub known_list : (xs ys : List ℕ) → Known (xs ≡ ys)
known_list xs ys = elim (cases_Bool (bytes_eq xs ys)) [
  | inl holds ↦ inl ((bytes_eq-Decides xs ys).0 holds)
  | inr fails ↦ inr (λ e. true≢false (sym ((bytes_eq-Decides xs ys).1 e) ∙ fails))
]
