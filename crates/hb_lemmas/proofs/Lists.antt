-- Lists of any elements: what is true of each, of a whole and of its parts, what stands at a place, and tests of it.
use Rattle.std.proofs.Common.{◌≡◌, ◌≢◌, ◌↔◌, ◌⊎◌, inl, inr, ℕ, zero, suc, ◌+◌, ◌<◌, Bool, true, false, IsTrue, cond, List, [], ◌∷◌, ◌++◌, length, take, drop, get_or, slice_set, slice_get, All, Contains, Some, refl, sym, ap, subst, ◌∙◌, arith, map}
use Rattle.std.specs.List.{AllByRecursion, filter}
use Rattle.std.proofs.Math.Seq.{take-append_seam}
use Rattle.std.proofs.lemmas.Bool.{cases_Bool, false≢true}
use Rattle.std.proofs.lemmas.List.{take_at, drop_at, set-get_or, set-set, take-append-drop, take_more}
use Rattle.std.proofs.lemmas.Option.{slice_get-get_or}
use Rattle.std.proofs.lemmas.List.Elements.{All-from_recursion, recursion_from_All, All-append, All-cons, All-contains, All-contains_itself, All-head, All-nil, All-weaker, Contains-append_right}

-- ---- of each element

-- of each of a list, by recursion, and of both parts
pub parts : {X : Type 0} (P : X → Type 0) (xs ys : List X) → AllByRecursion P (xs ++ ys) → AllByRecursion P xs × AllByRecursion P ys
parts P [] ys h = (tt, h)
parts P (x ∷ xs) ys h = let rest = parts P xs ys h.1 in ((h.0, rest.0), rest.1)

-- and of the whole
pub whole : {X : Type 0} (P : X → Type 0) (xs ys : List X) → AllByRecursion P xs → AllByRecursion P ys → AllByRecursion P (xs ++ ys)
whole P [] ys h k = k
whole P (x ∷ xs) ys h k = (h.0, whole P xs ys h.1 k)

-- of each of a list exactly where it is of each of both parts
pub All-parts : {X : Type 0} (P : X → Type 0) (xs ys : List X) → All P (xs ++ ys) ↔ (All P xs × All P ys)
All-parts P xs ys = (
  λ h. let both = parts P xs ys (recursion_from_All P (xs ++ ys) h) in (All-from_recursion P xs both.0, All-from_recursion P ys both.1),
  λ h. All-append P xs ys h.0 h.1,
)

pub All-front : {X : Type 0} (P : X → Type 0) (xs ys : List X) → All P (xs ++ ys) → All P xs
All-front P xs ys h = ((All-parts P xs ys).0 h).0

pub All-behind : {X : Type 0} (P : X → Type 0) (xs ys : List X) → All P (xs ++ ys) → All P ys
All-behind P xs ys h = ((All-parts P xs ys).0 h).1

-- of a lone element
pub All-one : {X : Type 0} (P : X → Type 0) (x : X) → All P (x ∷ []) ↔ P x
All-one P x = (λ h. All-head P x [] h, λ h. All-cons P x [] h (All-nil P))

pub All-alone : {X : Type 0} (P : X → Type 0) (x : X) → P x → All P (x ∷ [])
All-alone P x h = (All-one P x).1 h

-- of the last element
pub All-last : {X : Type 0} (P : X → Type 0) (front : List X) (last : X) → All P (front ++ last ∷ []) → P last
All-last P front last h = (All-one P last).0 (All-behind P front (last ∷ []) h)

-- of each so far, and of the next
pub All-take_more : {X : Type 0} (P : X → Type 0) (xs : List X) (n : ℕ) (x : X) → n < length xs → x ≡ get_or xs n x → All P (take n xs) → P x → All P (take (n + 1) xs)
All-take_more P xs n x less is all here =
    subst (λ (ys : List _). All P ys) (sym (take_more xs n x less))
    (All-append P (take n xs) (get_or xs n x ∷ []) all (All-alone P (get_or xs n x) (subst P is here)))

-- what holds of each member holds of all
pub each_member : {X : Type 0} (P : X → Type 0) (xs : List X) → ((x : X) → Contains xs x → P x) → All P xs
each_member P xs h = All-weaker (Contains xs) P h xs (All-contains_itself xs)

-- ---- tests

-- a test of the second part, where the first one passed, tests the whole
pub second_tells : {X : Type 0} (P : X → Type 0) (xs ys : List X) (r : Bool) → All P xs → (IsTrue r ↔ All P ys) → IsTrue r ↔ All P (xs ++ ys)
second_tells P xs ys r h tells = (λ t. (All-parts P xs ys).1 (h, tells.0 t), λ all. tells.1 ((All-parts P xs ys).0 all).1)

-- and where the first one failed, its test does
pub first_tells : {X : Type 0} (P : X → Type 0) (xs ys : List X) (r : Bool) → r ≡ false → (IsTrue r ↔ All P xs) → IsTrue r ↔ All P (xs ++ ys)
first_tells P xs ys r e tells = (λ t. absurd (false≢true (sym e ∙ t)), λ all. tells.1 ((All-parts P xs ys).0 all).0)

-- a test of a lone element
pub one_tells : {X : Type 0} (P : X → Type 0) (x : X) (r : Bool) → (IsTrue r ↔ P x) → IsTrue r ↔ All P (x ∷ [])
one_tells P x r tells = (λ t. (All-one P x).1 (tells.0 t), λ all. tells.1 ((All-one P x).0 all))

-- ---- members

pub no_member : {X : Type 0} (x : X) → Contains [] x → ⊥
no_member x h = absurd (omega (arith, h.1))

-- the element of a list of one
pub only_one : {X : Type 0} (y x : X) → Contains (y ∷ []) x → y ≡ x
only_one y x (zero, lt, e) = e
only_one y x (suc k, lt, e) = absurd (omega arith)

pub first_member : {X : Type 0} (x : X) (xs : List X) → Contains (x ∷ xs) x
first_member x xs = (zero, omega arith, refl)

pub later_member : {X : Type 0} (x : X) (xs : List X) (y : X) → Contains xs y → Contains (x ∷ xs) y
later_member x xs y h = (suc h.0, omega (arith, h.1), h.2)

-- a member is the first, or one of the rest
pub member_cases : {X : Type 0} (x : X) (xs : List X) (y : X) → Contains (x ∷ xs) y → (x ≡ y) ⊎ Contains xs y
member_cases x xs y (zero, lt, e) = inl e
member_cases x xs y (suc k, lt, e) = inr (k, omega arith, e)

-- what stands behind a front is a member
pub behind_front : {X : Type 0} (n : ℕ) (xs : List X) (x : X) → Contains (drop n xs) x → Contains xs x
behind_front n xs x there = subst (λ (l : List _). Contains l x) (take-append-drop n xs) (Contains-append_right (take n xs) (drop n xs) x there)

-- a filter leaves out, and keeps what passes
pub filter_has : {X : Type 0} (p : X → Bool) (xs : List X) (x : X) → Contains (filter p xs) x → Contains xs x
filter_has p [] x h = h
filter_has p (y ∷ xs) x h = elim (cases_Bool (p y)) [
  | inl t ↦
      let kept : Contains (y ∷ filter p xs) x = subst (λ (b : Bool). Contains (cond b (y ∷ filter p xs) (filter p xs)) x) t h in
      elim (member_cases y (filter p xs) x kept) [ inl e ↦ (zero, omega arith, e) | inr later ↦ later_member y xs x (filter_has p xs x later) ]
  | inr f ↦ later_member y xs x (filter_has p xs x (subst (λ (b : Bool). Contains (cond b (y ∷ filter p xs) (filter p xs)) x) f h))
]

pub filter_keeps : {X : Type 0} (p : X → Bool) (xs : List X) (x : X) → Contains xs x → p x ≡ true → Contains (filter p xs) x
filter_keeps p [] x there passes = absurd (no_member x there)
filter_keeps p (y ∷ xs) x there passes = elim (cases_Bool (p y)) [
  | inl t ↦ subst (λ (b : Bool). Contains (cond b (y ∷ filter p xs) (filter p xs)) x) (sym t) (elim (member_cases y xs x there) [
    | inl e ↦ (zero, omega arith, e)
    | inr later ↦ later_member y (filter p xs) x (filter_keeps p xs x later passes)
  ])
  | inr f ↦ subst (λ (b : Bool). Contains (cond b (y ∷ filter p xs) (filter p xs)) x) (sym f) (elim (member_cases y xs x there) [
    | inl e ↦ absurd (false≢true (sym f ∙ ap p e ∙ passes))
    | inr later ↦ filter_keeps p xs x later passes
  ])
]

-- ---- places

-- what stands at a place is a member, and one for which all holds
pub place_member : {X : Type 0} (xs : List X) (place : ℕ) (x : X) → slice_get xs place ≡ Some x → Contains xs x
place_member [] place x is = cc
place_member (y ∷ xs) zero x is = (zero, omega arith, let same : y ≡ x = cc in same)
place_member (y ∷ xs) (suc place) x is = later_member y xs x (place_member xs place x is)

pub at_place : {X : Type 0} (P : X → Type 0) (xs : List X) (place : ℕ) (x : X) → All P xs → slice_get xs place ≡ Some x → P x
at_place P xs place x all is = All-contains P xs x all (place_member xs place x is)

-- and each member stands somewhere
pub member_place : {X : Type 0} (xs : List X) (x : X) → Contains xs x → (place : ℕ) × (slice_get xs place ≡ Some x)
member_place xs x (place, lt, is) = (place, slice_get-get_or xs place x lt ∙ ap Some is)

-- what a list of images has at a place is the image of what the list has there
pub mapped_place : {X Y : Type 0} (f : X → Y) (xs : List X) (place : ℕ) (y : Y) → slice_get (map f xs) place ≡ Some y → (x : X) × (slice_get xs place ≡ Some x) × (f x ≡ y)
mapped_place f [] place y is = cc
mapped_place f (x ∷ xs) zero y is = (x, refl, let same : f x ≡ y = cc in same)
mapped_place f (x ∷ xs) (suc place) y is = mapped_place f xs place y is

-- each place within the list has something
pub place_within : {X : Type 0} (xs : List X) (n : ℕ) → n < length xs → (x : X) × (slice_get xs n ≡ Some x)
place_within [] n lt = absurd (omega arith)
place_within (x ∷ xs) zero lt = (x, refl)
place_within (x ∷ xs) (suc n) lt = place_within xs n (omega arith)

-- a longer list has the same at each place, and what was put behind at its end
pub get-longer : {X : Type 0} (xs more : List X) (place : ℕ) (x : X) → slice_get xs place ≡ Some x → slice_get (xs ++ more) place ≡ Some x
get-longer [] more place x is = cc
get-longer (y ∷ xs) more zero x is = is
get-longer (y ∷ xs) more (suc place) x is = get-longer xs more place x is

pub get-push_last : {X : Type 0} (xs : List X) (new : X) → slice_get (xs ++ (new ∷ [])) (length xs) ≡ Some new
get-push_last [] new = refl
get-push_last (x ∷ xs) new = get-push_last xs new

pub get-push_other : {X : Type 0} (xs : List X) (m : ℕ) (new : X) → m ≢ length xs → slice_get (xs ++ (new ∷ [])) m ≡ slice_get xs m
get-push_other [] zero new ne = absurd (ne refl)
get-push_other [] (suc m) new ne = refl
get-push_other (x ∷ xs) zero new ne = refl
get-push_other (x ∷ xs) (suc m) new ne = get-push_other xs m new (λ e. ne (ap suc e))

-- so what stands there stood there, or is what was put behind
pub get-push_cases : {X : Type 0} (xs : List X) (x : X) (n : ℕ) (y : X) → slice_get (xs ++ x ∷ []) n ≡ Some y → (slice_get xs n ≡ Some y) ⊎ ((n ≡ length xs) × (x ≡ y))
get-push_cases [] x zero y is = inr (refl, let same : x ≡ y = cc in same)
get-push_cases [] x (suc n) y is = cc
get-push_cases (z ∷ xs) x zero y is = inl is
get-push_cases (z ∷ xs) x (suc n) y is = elim (get-push_cases xs x n y is) [ inl there ↦ inl there | inr last ↦ inr (ap suc last.0, last.1) ]

-- a value that was changed and put back
pub put_back : (xs changed : List ℕ) (at value d : ℕ) → changed ≡ slice_set xs at value → slice_set changed at (get_or xs at d) ≡ xs
put_back xs changed at value d is = ap (λ (l : List ℕ). slice_set l at (get_or xs at d)) is ∙ set-set xs at value (get_or xs at d) ∙ set-get_or xs at d

-- ---- fronts and ends

-- a list that begins
pub same_first : {X : Type 0} (x y : X) (xs ys : List X) → x ∷ xs ≡ y ∷ ys → x ≡ y
same_first x y xs ys same = cc same

pub not_empty : {X : Type 0} (x : X) (xs : List X) → x ∷ xs ≡ [] → ⊥
not_empty x xs same = cc same

-- two lists that begin with fronts of one length have the same front and the same rest
pub same_fronts : {X : Type 0} (a b r s : List X) → length a ≡ length b → a ++ r ≡ b ++ s → (a ≡ b) × (r ≡ s)
same_fronts {X = X} a b r s long e = (
  sym (take_at a r (length a) refl) ∙ ap (λ (l : List X). take (length a) l) e ∙ take_at b s (length a) (sym long),
  sym (drop_at a r (length a) refl) ∙ ap (λ (l : List X). drop (length a) l) e ∙ drop_at b s (length a) (sym long),
)

-- the values that were copied into a longer list
pub front_copied : {X : Type 0} (copied behind values : List X) (n : ℕ) → n ≡ length values → copied ≡ values → take n (copied ++ behind) ≡ values
front_copied {X = X} copied behind values n count same =
    ap (λ (l : List X). take n (l ++ behind)) same ∙ ap (λ (m : ℕ). take m (values ++ behind)) count ∙ take-append_seam values behind
