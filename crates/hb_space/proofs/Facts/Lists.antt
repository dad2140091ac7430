-- Lists of numbers, place by place.
use Rattle.std.proofs.Common.{Result, Ok, Err, ◌≡◌, ℕ, zero, suc, ◌<◌, ◌≤◌, ◌+◌, ◌^◌, List, [], ◌∷◌, ◌++◌, length, get_or, set, take, replicate, ◌⊎◌, inl, inr, ◌≢◌, refl, ap, sym, ◌∙◌, arith, min, max, slice_get, Some}
use Rattle.std.proofs.lemmas.List.{take_more, take_all, take_at, take-replicate, length-set, get_or-set_other}
use Rattle.std.proofs.lemmas.Grind.{get_or-set_at}
use Rattle.std.specs.Result.{IsOk, OnOk}
use Rattle.std.proofs.lemmas.Bool.{cases_eq, false≢true}
use Rattle.std.proofs.lemmas.List.Elements.{All-from_get_or, All-set}
use Rattle.hb_space.specs.Boxes.{zip_by}
use Rattle.hb_space.specs.Points.{IsPoint}

pub length-zip_by : (f : ℕ → ℕ → ℕ) (xs ys : List ℕ) → length xs ≡ length ys → length (zip_by f xs ys) ≡ length xs
length-zip_by f [] ys e = refl
length-zip_by f (x ∷ xs) [] e = absurd (omega arith)
length-zip_by f (x ∷ xs) (y ∷ ys) e = ap suc (length-zip_by f xs ys (omega arith))

pub get_or-zip_by : (f : ℕ → ℕ → ℕ) (xs ys : List ℕ) (i : ℕ) → length xs ≡ length ys → i < length xs → get_or (zip_by f xs ys) i 0 ≡ f (get_or xs i 0) (get_or ys i 0)
get_or-zip_by f [] ys i e h = absurd (omega arith)
get_or-zip_by f (x ∷ xs) [] i e h = absurd (omega arith)
get_or-zip_by f (x ∷ xs) (y ∷ ys) zero e h = refl
get_or-zip_by f (x ∷ xs) (y ∷ ys) (suc i) e h = get_or-zip_by f xs ys i (omega arith) (omega arith)

-- one more place of two lists that are made one
pub zip_by_more : (f : ℕ → ℕ → ℕ) (xs ys : List ℕ) (i : ℕ) → length xs ≡ length ys → i < length xs → take (i + 1) (zip_by f xs ys) ≡ take i (zip_by f xs ys) ++ f (get_or xs i 0) (get_or ys i 0) ∷ []
zip_by_more f xs ys i e h =
    take_more (zip_by f xs ys) i 0 (rw (length-zip_by f xs ys e) h) ∙ ap (λ v. take i (zip_by f xs ys) ++ v ∷ []) (get_or-zip_by f xs ys i e h)

-- and all of them
pub zip_by_all : (f : ℕ → ℕ → ℕ) (xs ys zs : List ℕ) (i : ℕ) → length xs ≡ length ys → length xs ≤ i → zs ≡ take i (zip_by f xs ys) → zs ≡ zip_by f xs ys
zip_by_all f xs ys zs i e h k = k ∙ take_all i (zip_by f xs ys) (rw (length-zip_by f xs ys e) h)

-- a choice between the values of two points makes a point
pub IsPoint-zip_by : (f : ℕ → ℕ → ℕ) → ((x y n : ℕ) → x < n → y < n → f x y < n) → (p q : List ℕ) → length p ≡ length q → IsPoint p → IsPoint q → IsPoint (zip_by f p q)
IsPoint-zip_by f chooses p q e hp hq =
    let l = length-zip_by f p q e in
    record {
      some = rw l hp.some;
      few = rw l hp.few;
      fits = All-from_get_or (λ x. x < 2 ^ 64) (zip_by f p q) 0 (λ i h.
          let h' : i < length p = rw (sym l) h in
          let h'' : i < length q = rw (sym e) h' in
          rw (get_or-zip_by f p q i e h') (chooses _ _ _ (hp.fits i 0 h') (hq.fits i 0 h'')));
    }

pub max_chooses : (x y n : ℕ) → x < n → y < n → max x y < n
max_chooses x y n h k = omega arith

pub min_chooses : (x y n : ℕ) → x < n → y < n → min x y < n
min_chooses x y n h k = omega arith

-- the first of four equal values
pub first_of_four : (p : List ℕ) (j k v : ℕ) → p ≡ take j (v ∷ v ∷ v ∷ v ∷ []) → j ≡ k → k ≤ 4 → p ≡ replicate k v
first_of_four p j k v h e few = h ∙ ap (λ n. take n (v ∷ v ∷ v ∷ v ∷ [])) e ∙ take-replicate k 4 v few

-- a read of a list after a write
pub set_cases : (xs : List ℕ) (i v j : ℕ) → i < length xs → ((j ≡ i) × (get_or (set xs i v) j 0 ≡ v)) ⊎ ((j ≢ i) × (get_or (set xs i v) j 0 ≡ get_or xs j 0))
set_cases xs i v j h =
    elim (cases_eq j i) [
      | inl e ↦ inl (e, get_or-set_at xs i j v 0 e h)
      | inr n ↦ inr (n, get_or-set_other xs i j v 0 n)
    ]

pub IsPoint-set : (p : List ℕ) (i v : ℕ) → IsPoint p → v < 2 ^ 64 → IsPoint (set p i v)
IsPoint-set p i v h fits = record {
  some = omega (arith, length-set p i v, h.some);
  few = omega (arith, length-set p i v, h.few);
  fits = All-set (λ x. x < 2 ^ 64) p i v fits h.fits;
}

-- what a list has once another that is as it was has had a value set and was written to its front
pub set_written : (held values rest : List ℕ) (i v : ℕ) → values ≡ held → take (length held) (set values i v ++ rest) ≡ set held i v
set_written held values rest i v same =
    take_at (set values i v) rest (length held) (length-set values i v ∙ ap length same) ∙ ap (λ (xs : List ℕ). set xs i v) same

-- what holds where there is a value, and there is one
pub on_ok : {T E : Type 0} (r : Result T E) (P : Type 0) → IsOk r → OnOk r P → P
on_ok (Ok x) P some h = h
on_ok (Err e) P some h = absurd (false≢true some)

-- a list with another item at a place has that one there, and elsewhere what it had
pub get-set_same : {X : Type 0} (xs : List X) (n : ℕ) (new : X) → n < length xs → slice_get (set xs n new) n ≡ Some new
get-set_same [] n new lt = absurd (omega (arith, lt))
get-set_same (x ∷ xs) zero new lt = refl
get-set_same (x ∷ xs) (suc n) new lt = get-set_same xs n new (omega (arith, lt))

pub get-set_other : {X : Type 0} (xs : List X) (n m : ℕ) (new : X) → m ≢ n → slice_get (set xs n new) m ≡ slice_get xs m
get-set_other [] n m new ne = refl
get-set_other (x ∷ xs) zero zero new ne = absurd (ne refl)
get-set_other (x ∷ xs) zero (suc m) new ne = refl
get-set_other (x ∷ xs) (suc n) zero new ne = refl
get-set_other (x ∷ xs) (suc n) (suc m) new ne = get-set_other xs n m new (λ e. ne (ap suc e))
