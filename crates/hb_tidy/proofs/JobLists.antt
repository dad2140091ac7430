-- Lists of jobs, and of leaves that were gone over.
use Rattle.std.proofs.Common.{◌≡◌, ℕ, ◌≤◌, ◌==◌, true, false, List, [], ◌∷◌, ◌++◌, All, length, take, refl, sym, ap, ◌∙◌, arith}
use Rattle.std.proofs.lemmas.Bool.{eqb-false, eqb-true}
use Rattle.std.proofs.lemmas.List.Elements.{All-nil}

-- what holds of the first items of a list
pub none_yet : {X : Type 0} (P : X → Type 0) (xs : List X) → All P (take 0 xs)
none_yet P xs = All-nil P

-- a list of no items
pub no_items : {X : Type 0} (xs : List X) (n : ℕ) → n ≡ length xs → (n == 0) ≡ true → xs ≡ []
no_items [] n long zero = refl
no_items (x ∷ xs) n long zero = let none = eqb-true n 0 zero in absurd (omega (arith, long, none))

pub some_items : {X : Type 0} (xs : List X) (n : ℕ) → n ≡ length xs → (n == 0) ≡ false → xs ≡ [] → ⊥
some_items xs n long some empty =
    let none = ap (λ (ys : List _). length ys) empty in
    eqb-false n 0 some (omega (arith, long, none))

pub some_added : {X : Type 0} (xs ys : List X) (x : X) → ys ≡ xs ++ x ∷ [] → ys ≡ [] → ⊥
some_added {X = X} [] ys x is none = let never : ◌≡◌ {A = List X} [] (x ∷ []) = sym none ∙ is in cc never
some_added {X = X} (y ∷ xs) ys x is none = let never : ◌≡◌ {A = List X} [] (y ∷ (xs ++ x ∷ [])) = sym none ∙ is in cc never

-- a list that was gone over before its first item
pub no_first : {X : Type 0} (xs : List X) (i : ℕ) → length xs ≤ i → i ≡ 0 → xs ≡ []
no_first [] i end none = refl
no_first (x ∷ xs) i end none = absurd (omega (arith, end, none))
