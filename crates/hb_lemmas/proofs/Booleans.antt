-- Choices by a test.
use Rattle.std.proofs.Common.{◌≡◌, ◌≢◌, ◌⊎◌, ℕ, ◌<◌, ◌≤◌, ◌==◌, nat_lt, Bool, true, false, T, not, cond, Option, Some, None, inl, inr, refl, sym, ap, subst, ne_eqb, arith}
use Rattle.std.proofs.lemmas.Bool.{cases_Bool, cases_lt, eq-eqb, eqb-false, eqb-true, le-ltb, lt-ltb}

-- what was chosen, and by which test
pub chosen : {A : Type 0} (b : Bool) (x y z : A) → cond b x y ≡ z → ((b ≡ true) × (x ≡ z)) ⊎ ((b ≡ false) × (y ≡ z))
chosen true x y z e = inl (refl, e)
chosen false x y z e = inr (refl, e)

-- what holds of both holds of the one that is chosen
pub either_way : {A : Type 0} (P : A → Type 0) (b : Bool) (x y : A) → P x → P y → P (cond b x y)
either_way P true x y one other = one
either_way P false x y one other = other

-- a choice between one thing, and one by the test turned round
pub cond-same : {A : Type 0} (b : Bool) (x : A) → cond b x x ≡ x
cond-same true x = refl
cond-same false x = refl

pub cond-not : {A : Type 0} (b : Bool) (x y : A) → cond (not b) x y ≡ cond b y x
cond-not true x y = refl
cond-not false x y = refl

-- a test turned round twice
pub twice_not : (b : Bool) → b ≡ not (not b)
twice_not true = refl
twice_not false = refl

-- a test counts once at most
pub one_at_most : (b : Bool) → cond b 1 0 ≤ 1
one_at_most true = omega arith
one_at_most false = omega arith

-- a choice that gave something where only one side has something
pub unless_some : {A : Type 0} (b : Bool) (r : Option A) (y : A) → cond b None r ≡ Some y → (b ≡ false) × (r ≡ Some y)
unless_some true r y e = absurd cc
unless_some false r y e = (refl, e)

pub when_some : {A : Type 0} (b : Bool) (r : Option A) (y : A) → cond b r None ≡ Some y → (b ≡ true) × (r ≡ Some y)
when_some true r y e = (refl, e)
when_some false r y e = absurd cc

-- a choice by whether two numbers are the same
pub at_same : {A : Type 0} (m n : ℕ) (x y : A) → m ≡ n → cond (m == n) x y ≡ x
at_same m n x y e = ap (λ (b : Bool). cond b x y) (eq-eqb m n e)

pub at_itself : {A : Type 0} (n : ℕ) (x y : A) → cond (n == n) x y ≡ x
at_itself n x y = at_same n n x y refl

pub at_other : {A : Type 0} (m n : ℕ) (x y : A) → m ≢ n → cond (m == n) x y ≡ y
at_other m n x y ne = ap (λ (b : Bool). cond b x y) (ne_eqb m n ne)

-- what holds by a comparison of numbers, whichever way it goes
pub if_below : (a b : ℕ) (P : Bool → Type 0) → (a < b → P true) → (b ≤ a → P false) → P (nat_lt a b)
if_below a b P below above = elim (cases_lt a b) [
  | inl lt ↦ subst P (sym (lt-ltb a b lt)) (below lt)
  | inr le ↦ subst P (sym (le-ltb a b le)) (above le)
]

pub if_same : (a b : ℕ) (P : Bool → Type 0) → (a ≡ b → P true) → ((a ≡ b → ⊥) → P false) → P (a == b)
if_same a b P same other = elim (cases_Bool (a == b)) [
  | inl t ↦ subst P (sym t) (same (eqb-true a b t))
  | inr f ↦ subst P (sym f) (other (eqb-false a b f))
]

-- a test that holds
pub T_true : (b : Bool) → T b → b ≡ true
T_true true t = refl
T_true false t = absurd t
