-- Where none of a list passes a test, and where one alone does.
use Rattle.std.proofs.Common.{◌≡◌, ℕ, zero, suc, ◌+◌, ◌<◌, ◌≤◌, true, false, not, cond, Bool, List, [], ◌∷◌, length, get_or, Option, Some, None, refl, sym, ap, subst, arith}
use Rattle.std.specs.List.{find, position_or_len, count_by}
use Rattle.std.specs.Option.{option_or}
use Rattle.std.proofs.lemmas.List.Sums.{get_or-le-sum_by, sum_by-cons}

pub or_none : {X : Type 0} (o : Option X) → option_or o None ≡ o
or_none None = refl
or_none (Some x) = refl

module _ {X : Type 0} (p : X → Bool) where
  -- none passes where none is counted
  pub none_found : (xs : List X) → count_by p xs ≤ 0 → find p xs ≡ None
  none_found [] none = refl
  none_found (x ∷ xs) none =
      elim (p x) as (λ b. cond b 1 0 + count_by p xs ≤ 0 → cond b (Some x) (find p xs) ≡ None) [
        | true ↦ λ most. absurd (omega arith)
        | false ↦ λ most. none_found xs (omega arith)
      ] (subst (λ n. n ≤ 0) (sum_by-cons (λ (y : X). cond (p y) 1 0) x xs) none)

  -- and then its place is past the end
  pub nowhere : (xs : List X) → find p xs ≡ None → length xs ≡ position_or_len p xs
  nowhere [] none = refl
  nowhere (x ∷ xs) none =
      elim (p x) as (λ b. cond b (Some x) (find p xs) ≡ None → suc (length xs) ≡ cond (not b) (1 + position_or_len p xs) 0) [
        | true ↦ λ here. absurd cc
        | false ↦ λ later. let rest = nowhere xs later in omega (arith, rest)
      ] none

  -- the place where one passes is the first
  pub only_place : (xs : List X) (i : ℕ) (d : X) → i < length xs → p (get_or xs i d) ≡ true → count_by p xs ≤ 1 → i ≡ position_or_len p xs
  only_place [] i d lt on few = absurd (omega arith)
  only_place (x ∷ xs) zero d lt on few = ap (λ b. cond (not b) (1 + position_or_len p xs) 0) (sym on)
  only_place (x ∷ xs) (suc i) d lt on few =
      let f : X → ℕ = λ y. cond (p y) 1 0 in
      let most = get_or-le-sum_by f xs i d (omega arith) in
      let is : f (get_or xs i d) ≡ 1 = ap (λ b. cond {A = ℕ} b 1 0) on in
      let one : 1 ≤ count_by p xs = omega (arith, most, is) in
      elim (p x) as (λ b. cond b 1 0 + count_by p xs ≤ 1 → suc i ≡ cond (not b) (1 + position_or_len p xs) 0) [
        | true ↦ λ few_here. absurd (omega (arith, one))
        | false ↦ λ few_here. let rest = only_place xs i d (omega arith) on (omega arith) in omega (arith, rest)
      ] (subst (λ n. n ≤ 1) (sum_by-cons f x xs) few)
