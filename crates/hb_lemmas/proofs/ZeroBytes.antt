-- Bytes that are all 0.
use Rattle.std.proofs.Common.{◌≡◌, ℕ, zero, suc, ◌+◌, ◌<◌, ◌≤◌, List, [], ◌∷◌, length, get_or, take, refl, sym, ap, ◌∙◌, add-one, arith}
use Rattle.std.specs.Prelude.{◌==◌, ◌&&◌, Bool, true, false}
use Rattle.std.specs.List.{list_all}
use Rattle.std.proofs.Math.Dec.{eqb-suc-zero}
use Rattle.std.specs.Int.Bits.{bit_or, or_zero_l}
use Rattle.std.proofs.lemmas.Nat.{le_or_l}
use Rattle.std.proofs.Math.Bool.{and-true}

above : (a n : ℕ) → suc a ≤ n → (n == 0) ≡ false
above a zero e = absurd (omega (arith, e))
above a (suc n) e = eqb-suc-zero n

pub or_is_zero : (a b : ℕ) → (bit_or a b == 0) ≡ ((a == 0) && (b == 0))
or_is_zero zero b = ap (λ (n : ℕ). n == 0) (or_zero_l b)
or_is_zero (suc a) b = above a (bit_or (suc a) b) (le_or_l (suc a) b) ∙ sym (ap (λ (r : Bool). r && (b == 0)) (above a (suc a) (omega arith)))

and_assoc : (a b c : Bool) → (a && (b && c)) ≡ ((a && b) && c)
and_assoc true b c = refl
and_assoc false b c = refl

-- one byte more: whether those before it are zeros, and it
next_all : (xs : List ℕ) (i : ℕ) → i < length xs
    → list_all (λ (b : ℕ). b == 0) (take (suc i) xs) ≡ (list_all (λ (b : ℕ). b == 0) (take i xs) && (get_or xs i 0 == 0))
next_all (x ∷ xs) zero lt = and-true (x == 0)
next_all (x ∷ xs) (suc i) lt = ap (λ (r : Bool). (x == 0) && r) (next_all xs i (omega (arith, lt))) ∙ and_assoc (x == 0) (list_all (λ (b : ℕ). b == 0) (take i xs)) (get_or xs i 0 == 0)
next_all [] i lt = absurd (omega (arith, lt))

pub zeros_so_far : (xs : List ℕ) (i any : ℕ) → i < length xs → (any == 0) ≡ list_all (λ (b : ℕ). b == 0) (take i xs)
    → (bit_or any (get_or xs i 0) == 0) ≡ list_all (λ (b : ℕ). b == 0) (take (i + 1) xs)
zeros_so_far xs i any lt before =
    or_is_zero any (get_or xs i 0) ∙ ap (λ (r : Bool). r && (get_or xs i 0 == 0)) before ∙ sym (next_all xs i lt) ∙ ap (λ (n : ℕ). list_all (λ (b : ℕ). b == 0) (take n xs)) (sym (add-one i))
