-- The first of a list that passes a test: where it stands, the list without it, and the list in which it is changed.
use Rattle.std.proofs.Common.{◌≡◌, ℕ, suc, ◌+◌, ◌<◌, ◌≤◌, Bool, true, false, not, cond, List, [], ◌∷◌, length, get_or, All, Some, None, IsSome, refl, sym, ap, subst, ◌∙◌, arith}
use Rattle.std.specs.List.{remove, find, position, position_or_len, count_by, sum_by}
use Rattle.std.specs.Option.{option_map, unwrap_or}
use Rattle.std.specs.Set.{remove_key}
use Rattle.std.proofs.Math.ListN.{set}
use Rattle.std.proofs.lemmas.List.Folds.{find_at}
use Rattle.std.proofs.lemmas.List.Edits.{length-remove}
use Rattle.std.proofs.lemmas.List.Elements.{All-set}
use Rattle.std.proofs.lemmas.List.{length-set}
use Rattle.std.proofs.lemmas.List.Sums.{sum_by-cons, sum_by-set, get_or-le-sum_by, prefix_len-le-length}
use Rattle.std.proofs.lemmas.Map.Made.{sum_by-remove_key}
use Rattle.std.proofs.lemmas.Option.{slice_get_within, get_or_from_slice_get}
use Rattle.hb_lemmas.proofs.Booleans.{if_below}
use Rattle.hb_pool.specs.Pools.{change_first}

remove_later : {X : Type 0} (x : X) (xs : List X) (i : ℕ) → remove (x ∷ xs) (1 + i) ≡ x ∷ remove xs i
remove_later x xs i = let e : suc i ≡ 1 + i = omega arith in subst (λ n. remove (x ∷ xs) n ≡ x ∷ remove xs i) e refl

set_later : {X : Type 0} (x y : X) (xs : List X) (i : ℕ) → set (x ∷ xs) (1 + i) y ≡ x ∷ set xs i y
set_later x y xs i = let e : suc i ≡ 1 + i = omega arith in subst (λ n. set (x ∷ xs) n y ≡ x ∷ set xs i y) e refl

get_later : {X : Type 0} (x d : X) (xs : List X) (i : ℕ) → get_or (x ∷ xs) (1 + i) d ≡ get_or xs i d
get_later x d xs i = let e : suc i ≡ 1 + i = omega arith in subst (λ n. get_or (x ∷ xs) n d ≡ get_or xs i d) e refl

module _ {X : Type 0} (p : X → Bool) where
  -- it is taken out at its place
  pub remove_first : (xs : List X) → remove xs (position_or_len p xs) ≡ remove_key p xs
  remove_first [] = refl
  remove_first (x ∷ xs) = elim (p x) as (λ b. remove (x ∷ xs) (cond (not b) (1 + position_or_len p xs) 0) ≡ cond b xs (x ∷ remove_key p xs)) [
    | true ↦ refl
    | false ↦ remove_later x xs (position_or_len p xs) ∙ ap (λ ys. x ∷ ys) (remove_first xs)
  ]

  -- and changed at its place
  pub set_first : (change : X → X) (xs : List X) (d : X) → position_or_len p xs < length xs → set xs (position_or_len p xs) (change (get_or xs (position_or_len p xs) d)) ≡ change_first p change xs
  set_first change [] d lt = absurd (omega arith)
  set_first change (x ∷ xs) d lt = elim (p x) as (λ b. cond (not b) (1 + position_or_len p xs) 0 < suc (length xs) → set (x ∷ xs) (cond (not b) (1 + position_or_len p xs) 0) (change (get_or (x ∷ xs) (cond (not b) (1 + position_or_len p xs) 0) d)) ≡ cond b (change x ∷ xs) (x ∷ change_first p change xs)) [
    | true ↦ λ less. refl
    | false ↦ λ less.
        set_later x _ xs (position_or_len p xs)
        ∙ ap (λ (y : X). x ∷ set xs (position_or_len p xs) (change y)) (get_later x d xs (position_or_len p xs))
        ∙ ap (λ ys. x ∷ ys) (set_first change xs d (omega arith))
  ] lt

  -- it passes
  pub first_passes : (xs : List X) (x : X) → find p xs ≡ Some x → p x ≡ true
  first_passes [] x is = absurd cc
  first_passes (y ∷ ys) x is = elim (p y) as (λ b. p y ≡ b → cond b (Some y) (find p ys) ≡ Some x → p x ≡ true) [
    | true ↦ λ t here. let same : y ≡ x = cc in subst (λ (z : X). p z ≡ true) same t
    | false ↦ λ f later. first_passes ys x later
  ] refl is

  -- where it stands
  pub first_within : (xs : List X) (x : X) → find p xs ≡ Some x → position_or_len p xs < length xs
  first_within xs x is = slice_get_within xs (position_or_len p xs) x (sym (find_at p xs) ∙ is)

  pub first_there : (xs : List X) (x d : X) → find p xs ≡ Some x → get_or xs (position_or_len p xs) d ≡ x
  first_there xs x d is = get_or_from_slice_get xs (position_or_len p xs) x d (sym (find_at p xs) ∙ is)

  -- the list without it
  pub length_without : (xs : List X) (x : X) → find p xs ≡ Some x → length (remove_key p xs) + 1 ≡ length xs
  length_without xs x is =
      ap (λ ys. length ys + 1) (sym (remove_first xs)) ∙ length-remove xs (position_or_len p xs) (first_within xs x is)

  pub count_without : (q : X → Bool) (xs : List X) (x : X) → find p xs ≡ Some x → count_by q (remove_key p xs) + cond (q x) 1 0 ≡ count_by q xs
  count_without q xs x is =
      let f : X → ℕ = λ y. cond (q y) 1 0 in
      subst (λ o. sum_by f (remove_key p xs) + unwrap_or (option_map f o) 0 ≡ sum_by f xs) is (sum_by-remove_key f p xs)

  -- the list in which it is changed
  pub length_changed : (change : X → X) (xs : List X) (x : X) → find p xs ≡ Some x → length (change_first p change xs) ≡ length xs
  length_changed change xs x is = ap length (sym (set_first change xs x (first_within xs x is))) ∙ length-set xs (position_or_len p xs) _

  pub count_changed : (q : X → Bool) (change : X → X) (xs : List X) (x : X) → find p xs ≡ Some x → count_by q (change_first p change xs) + cond (q x) 1 0 ≡ count_by q xs + cond (q (change x)) 1 0
  count_changed q change xs x is =
      let f : X → ℕ = λ y. cond (q y) 1 0 in
      let i = position_or_len p xs in
      let there : get_or xs i x ≡ x = first_there xs x x is in
      let sum : sum_by f (set xs i (change (get_or xs i x))) + f (get_or xs i x) ≡ sum_by f xs + f (change (get_or xs i x)) = sum_by-set f xs i (change (get_or xs i x)) x (first_within xs x is) in
      let known : sum_by f (set xs i (change (get_or xs i x))) + f x ≡ sum_by f xs + f (change x) = subst (λ (y : X). sum_by f (set xs i (change (get_or xs i x))) + f y ≡ sum_by f xs + f (change y)) there sum in
      subst (λ ys. sum_by f ys + f x ≡ sum_by f xs + f (change x)) (set_first change xs x (first_within xs x is)) known

  pub All-changed : (P : X → Type 0) (change : X → X) (xs : List X) (x : X) → find p xs ≡ Some x → All P xs → P (change x) → All P (change_first p change xs)
  All-changed P change xs x is all new =
      let i = position_or_len p xs in
      let put : P (change (get_or xs i x)) = subst (λ (y : X). P (change y)) (sym (first_there xs x x is)) new in
      subst (All P) (set_first change xs x (first_within xs x is)) (All-set P xs i (change (get_or xs i x)) put all)

  -- one that fails is there where fewer pass than there are
  pub some_fails : (xs : List X) → count_by p xs < length xs → IsSome (find (λ x. not (p x)) xs)
  some_fails [] lt = absurd (omega arith)
  some_fails (x ∷ xs) lt =
      let counted = sum_by-cons (λ (y : X). cond (p y) 1 0) x xs in
      elim (p x) as (λ b. cond b 1 0 + count_by p xs < suc (length xs) → IsSome (cond (not b) (Some x) (find (λ y. not (p y)) xs))) [
        | true ↦ λ less. some_fails xs (omega arith)
        | false ↦ λ less. refl
      ] (subst (λ n. n < suc (length xs)) counted lt)

  -- none that passes
  pub none_counted : (xs : List X) → find p xs ≡ None → count_by p xs ≡ 0
  none_counted [] none = refl
  none_counted (x ∷ xs) none =
      elim (p x) as (λ b. count_by p (x ∷ xs) ≡ cond b 1 0 + count_by p xs → cond b (Some x) (find p xs) ≡ None → count_by p (x ∷ xs) ≡ 0) [
        | true ↦ λ counted off. absurd cc
        | false ↦ λ counted off. let rest = none_counted xs off in omega (arith, counted, rest)
      ] (sum_by-cons (λ (y : X). cond (p y) 1 0) x xs) none

  pub no_place_found : (xs : List X) → None ≡ position p xs → length xs ≡ position_or_len p xs
  no_place_found xs =
      let most = prefix_len-le-length (λ x. not (p x)) xs in
      if_below (position_or_len p xs) (length xs) (λ b. None ≡ cond b (Some (position_or_len p xs)) None → length xs ≡ position_or_len p xs)
      (λ lt is. absurd cc)
      (λ le is. omega arith)

-- the first that passes one test is the first that passes another, if it passes that and no other does
pub alone_first : {X : Type 0} (q p : X → Bool) (xs : List X) (x : X) → p x ≡ true → count_by p xs ≤ 1 → find q xs ≡ Some x → find p xs ≡ Some x
alone_first {X = X} q p [] x passes few is = is
alone_first {X = X} q p (y ∷ ys) x passes few is =
    let counted = sum_by-cons (λ z. cond (p z) 1 0) y ys in
    elim (q y) as (λ b. cond b (Some y) (find q ys) ≡ Some x → find p (y ∷ ys) ≡ Some x) [
      | true ↦ λ here. let same : y ≡ x = cc in ap (λ b. cond b (Some y) (find p ys)) (ap p same ∙ passes) ∙ here
      | false ↦ λ later. elim (p y) as (λ b. cond b 1 0 + count_by p ys ≤ 1 → cond b (Some y) (find p ys) ≡ Some x) [
        | true ↦ λ most. absurd (let one = passing_counted p ys x passes (is_among q ys x later) in omega (arith, one))
        | false ↦ λ most. alone_first q p ys x passes (omega arith) later
      ] (subst (λ n. n ≤ 1) counted few)
    ] is
  where
    is_among : (r : X → Bool) (zs : List X) (z : X) → find r zs ≡ Some z → (i : ℕ) × (i < length zs) × (get_or zs i z ≡ z)
    is_among r zs z found = (position_or_len r zs, first_within r zs z found, first_there r zs z z found)

    passing_counted : (r : X → Bool) (zs : List X) (z : X) → r z ≡ true → (i : ℕ) × (i < length zs) × (get_or zs i z ≡ z) → 1 ≤ count_by r zs
    passing_counted r zs z on (i, lt, at) =
        let f : X → ℕ = λ w. cond (r w) 1 0 in
        let most = get_or-le-sum_by f zs i z lt in
        let one : f (get_or zs i z) ≡ 1 = ap f at ∙ ap (λ b. cond {A = ℕ} b 1 0) on in
        omega (arith, most, one)
