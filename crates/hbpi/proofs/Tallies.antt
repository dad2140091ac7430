-- Two lists of which each element of the one has its like in the other have as many that pass.
use Rattle.std.proofs.Common.{◌≡◌, ◌⊎◌, inl, inr, ℕ, zero, ◌+◌, Bool, false, cond, List, [], ◌∷◌, refl, sym, ap, ◌∙◌, arith}
use Rattle.std.specs.Prelude.{AllPairs, All, Contains, count_by}
use Rattle.std.proofs.lemmas.List.Elements.{All-contains}
use Rattle.std.proofs.lemmas.List.Sums.{sum_by-cons}
use Rattle.hb_lemmas.proofs.Lists.{later_member, member_cases, no_member}
use Rattle.hb_lemmas.proofs.Pairs.{pairs_first, pairs_rest}

-- an element stands in a list
abbrev pub In : {X : Type 0} → X → List X → Type 0
In x [] = ⊥
In x (y ∷ ys) = (y ≡ x) ⊎ In x ys

pub contained : {X : Type 0} (xs : List X) (x : X) → Contains xs x → In x xs
contained [] x there = no_member x there
contained (y ∷ ys) x there = elim (member_cases y ys x there) [ inl is ↦ inl is | inr later ↦ inr (contained ys x later) ]

get_in : {X : Type 0} (xs : List X) (x : X) → In x xs → Contains xs x
get_in [] x none = absurd none
get_in (y ∷ ys) x (inl is) = (zero, omega arith, is)
get_in (y ∷ ys) x (inr later) = later_member y ys x (get_in ys x later)

pub each_in : {X : Type 0} (P : X → Type 0) (xs : List X) → All P xs → (x : X) → In x xs → P x
each_in P xs all x there = All-contains P xs x all (get_in xs x there)

-- no two have one key
abbrev pub AreApart : {X : Type 0} → (X → ℕ) → List X → Type 0
AreApart key [] = Unit {0}
AreApart {X = X} key (x ∷ xs) = ((y : X) → In y xs → key x ≡ key y → ⊥) × AreApart key xs

pub apart : {X : Type 0} (key : X → ℕ) (xs : List X) → AllPairs (λ (x : X) (y : X). key x ≡ key y → ⊥) xs → AreApart key xs
apart key [] pairs = tt
apart {X = X} key (x ∷ xs) pairs = (
  each_in (λ (y : X). key x ≡ key y → ⊥) xs (pairs_first (λ (x : X) (y : X). key x ≡ key y → ⊥) x xs pairs),
  apart key xs (pairs_rest (λ (x : X) (y : X). key x ≡ key y → ⊥) x xs pairs),
)

-- two with one key are one
pub one_of_key : {X : Type 0} (key : X → ℕ) (xs : List X) → AreApart key xs → (x y : X) → In x xs → In y xs → key x ≡ key y → x ≡ y
one_of_key key [] all x y none there same = absurd none
one_of_key key (z ∷ zs) all x y (inl a) (inl b) same = sym a ∙ b
one_of_key key (z ∷ zs) all x y (inl a) (inr b) same = absurd (all.0 y b (ap key a ∙ same))
one_of_key key (z ∷ zs) all x y (inr a) (inl b) same = absurd (all.0 x a (ap key b ∙ sym same))
one_of_key key (z ∷ zs) all x y (inr a) (inr b) same = one_of_key key zs all.1 x y a b same

-- a list without one of its elements
abbrev without : {X : Type 0} (xs : List X) (x : X) → In x xs → List X
without [] x none = absurd none
without (y ∷ ys) x (inl is) = ys
without (y ∷ ys) x (inr later) = y ∷ without ys x later

module _ {X : Type 0} (key : X → ℕ) where
  from_rest : (xs : List X) (x : X) (here : In x xs) (z : X) → In z (without xs x here) → In z xs
  from_rest [] x none z there = absurd none
  from_rest (y ∷ ys) x (inl is) z there = inr there
  from_rest (y ∷ ys) x (inr later) z (inl is) = inl is
  from_rest (y ∷ ys) x (inr later) z (inr there) = inr (from_rest ys x later z there)

  to_rest : (xs : List X) (x : X) (here : In x xs) (z : X) → In z xs → (key z ≡ key x → ⊥) → In z (without xs x here)
  to_rest [] x none z there other = absurd none
  to_rest (y ∷ ys) x (inl is) z (inl same) other = absurd (other (ap key (sym same ∙ is)))
  to_rest (y ∷ ys) x (inl is) z (inr there) other = there
  to_rest (y ∷ ys) x (inr later) z (inl same) other = inl same
  to_rest (y ∷ ys) x (inr later) z (inr there) other = inr (to_rest ys x later z there other)

  rest_apart : (xs : List X) (x : X) (here : In x xs) → AreApart key xs → AreApart key (without xs x here)
  rest_apart [] x none all = absurd none
  rest_apart (y ∷ ys) x (inl is) all = all.1
  rest_apart (y ∷ ys) x (inr later) all = (λ z there same. all.0 z (from_rest ys x later z there) same, rest_apart ys x later all.1)

  not_in_rest : (xs : List X) (x : X) (here : In x xs) → AreApart key xs → (z : X) → In z (without xs x here) → key z ≡ key x → ⊥
  not_in_rest [] x none all z there same = absurd none
  not_in_rest (y ∷ ys) x (inl is) all z there same = all.0 z there (ap key is ∙ sym same)
  not_in_rest (y ∷ ys) x (inr later) all z (inl is) same = all.0 x later (ap key is ∙ same)
  not_in_rest (y ∷ ys) x (inr later) all z (inr there) same = not_in_rest ys x later all.1 z there same

cons_count : {X : Type 0} (p : X → Bool) (x : X) (xs : List X) → count_by p (x ∷ xs) ≡ cond (p x) 1 0 + count_by p xs
cons_count p x xs = sum_by-cons (λ y. cond (p y) 1 0) x xs

count_rest : {X : Type 0} (p : X → Bool) (xs : List X) (x : X) (here : In x xs) → count_by p xs ≡ cond (p x) 1 0 + count_by p (without xs x here)
count_rest p [] x none = absurd none
count_rest p (y ∷ ys) x (inl is) = cons_count p y ys ∙ ap (λ z. cond (p z) 1 0 + count_by p ys) is
count_rest p (y ∷ ys) x (inr later) =
    let all = cons_count p y ys in
    let rest = count_rest p ys x later in
    let left = cons_count p y (without ys x later) in
    omega (arith, all, rest, left)

none_count : {X : Type 0} (p : X → Bool) (xs : List X) → ((x : X) → In x xs → p x ≡ false) → count_by p xs ≡ 0
none_count p [] none = refl
none_count p (x ∷ xs) none =
    let here = ap {B = ℕ} (λ (b : Bool). cond b 1 0) (none x (inl refl)) in
    let rest = none_count p xs (λ y there. none y (inr there)) in
    let all = cons_count p x xs in
    omega (arith, here, rest, all)

module _ {X Y : Type 0} (key : X → ℕ) (name : Y → ℕ) (p : X → Bool) (q : Y → Bool) where
  -- the like of an element has its key, and passes where it does
  pub record HasLike (xs : List X) (y : Y) : Type 0 where
    pub like : X
    pub there : In like xs
    pub same : key like ≡ name y
    pub passes : p like ≡ q y

  -- one that passes has its like
  pub record StandsFor (ys : List Y) (x : X) : Type 0 where
    pub like : Y
    pub there : In like ys
    pub same : name like ≡ key x

  pub same_count : (ys : List Y) (xs : List X) → AreApart key xs → AreApart name ys → ((y : Y) → In y ys → HasLike xs y) → ((x : X) → In x xs → (p x ≡ false) ⊎ StandsFor ys x) → count_by p xs ≡ count_by q ys
  same_count [] xs keys names likes stands = none_count p xs (λ x there. elim (stands x there) [ inl none ↦ none | inr some ↦ absurd some.there ])
  same_count (y ∷ ys) xs keys names likes stands =
      let mine = likes y (inl refl) in
      let rest = without xs mine.like mine.there in
      let fewer = same_count ys rest (rest_apart key xs mine.like mine.there keys) names.1
      (λ z there. let its = likes z (inr there) in record {
        like = its.like;
        there = to_rest key xs mine.like mine.there its.like its.there (λ same. names.0 z there (sym mine.same ∙ sym same ∙ its.same));
        same = its.same;
        passes = its.passes;
      })
      (λ x there. elim (stands x (from_rest key xs mine.like mine.there x there)) [
        | inl none ↦ inl none
        | inr some ↦ stays x some (λ same. not_in_rest key xs mine.like mine.there keys x there (sym same ∙ sym mine.same)) some.there
      ]) in
      let here = count_rest p xs mine.like mine.there in
      let all = cons_count q y ys in
      let passes = ap {B = ℕ} (λ (b : Bool). cond b 1 0) mine.passes in
      omega (arith, here, all, fewer, passes)
    where
      stays : (x : X) (some : StandsFor (y ∷ ys) x) → (name y ≡ key x → ⊥) → In some.like (y ∷ ys) → (p x ≡ false) ⊎ StandsFor ys x
      stays x some other (inl is) = absurd (other (ap name is ∙ some.same))
      stays x some other (inr later) = inr (record { like = some.like; there = later; same = some.same })
