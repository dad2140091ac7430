-- Records in the order of their points, and that a stable sort gives that order.
use Rattle.std.proofs.Common.{◌≡◌, ℕ, zero, suc, ◌+◌, ◌<◌, Bool, true, false, cond, List, [], ◌∷◌, length, get_or, refl, sym, ap, subst, ◌∙◌, arith}
use Rattle.std.specs.List.{filter}
use denote.Param.Members.{Mut}
use denote.Ref.{Bor}
use Rattle.std.specs.List.Sorted.{IsSortedBy, IsStableBy, IsSortedByClosure, IsStableByClosure, IsPermutation, ties}
use Rattle.std.specs.Ordering.{is_gt, is_lt, ordering_reverse}
use Rattle.std.specs.Cmp.{IsStrictWeakOrder}
use Rattle.std.specs.Fn.{Called}
use Rattle.std.specs.declared.cmp.Ordering.{Ordering}
use Rattle.std.specs.declared.cmp.Ordering.TheVariants.{Less, Equal, Greater}
use Rattle.std.proofs.lemmas.Bool.{and_parts, not-true}
use Rattle.std.proofs.lemmas.Cmp.{nat_list_cmp_total}
use Rattle.std.proofs.lemmas.List.Sorted.{ranks_by, sorted_far, answers_always, IsPermutation-refl, IsPermutation-sym, IsPermutation-cons, IsPermutation-trans, IsPermutation-middle}
use Rattle.hb_space.specs.Points.{point_cmp}
use Rattle.hb_space.specs.declared.records.Record.{Record}
use Rattle.hb_frag.specs.Normal.{with_record_in_order, in_point_order}

same_rest : {X : Type 0} (b : Bool) (x : X) (u v : List X) → cond b (x ∷ u) u ≡ cond b (x ∷ v) v → u ≡ v
same_rest true x u v e = cc
same_rest false x u v e = e

module _ {X : Type 0} (lt : X → X → Bool) (o : IsStrictWeakOrder lt) where
  -- no element of the list comes before z
  abbrev NoneBefore : X → List X → Type 0
  NoneBefore z [] = Unit {0}
  NoneBefore z (x ∷ xs) = (lt x z ≡ false) × NoneBefore z xs

  abbrev Ascends : List X → Type 0
  Ascends [] = Unit {0}
  Ascends (x ∷ xs) = NoneBefore x xs × Ascends xs

  none_before : (z : X) (xs : List X) → ((k : ℕ) (d : X) → k < length xs → lt (get_or xs k d) z ≡ false) → NoneBefore z xs
  none_before z [] h = tt
  none_before z (x ∷ xs) h = (h zero x (omega arith), none_before z xs (λ k d l. h (suc k) d (omega arith)))

  ascends : (xs : List X) → IsSortedBy lt xs → Ascends xs
  ascends [] s = tt
  ascends (x ∷ xs) s = (
    none_before x xs (λ k d l. sorted_far lt o (x ∷ xs) s zero (suc k) d (omega arith) (omega arith)),
    ascends xs (λ k d low high.
        let next : suc k + 1 ≡ suc (k + 1) = omega arith in
        subst (λ (n : ℕ). lt (get_or (x ∷ xs) n d) (get_or xs k d) ≡ false) next (s (suc k) d (omega arith) (omega arith))),
  )

  not_itself : (x : X) → lt x x ≡ false
  not_itself x = elim (lt x x) as (λ b. (b ≡ true → lt x x ≡ false) → lt x x ≡ b → lt x x ≡ false) [ true ↦ λ f e. f refl | false ↦ λ f e. e ] (o.one_way x x) refl

  tie_parts : (x y : X) → ties lt x y ≡ true → (lt x y ≡ false) × (lt y x ≡ false)
  tie_parts x y t = let w = and_parts _ _ t in (not-true (lt x y) w.0, not-true (lt y x) w.1)

  tied : (x y : X) → lt x y ≡ false → lt y x ≡ false → ties lt x y ≡ true
  tied x y h k = rw (h, k) refl

  -- what some element ties with comes no earlier than the first
  not_before : (y z : X) (zs : List X) → NoneBefore z zs → (w : X) (ws : List X) → filter (ties lt y) zs ≡ w ∷ ws → lt y z ≡ false
  not_before y z [] h w ws e = absurd (cc)
  not_before y z (s ∷ zs) h w ws e =
      let later = not_before y z zs h.1 w ws in
      elim (ties lt y s) as (λ b. ties lt y s ≡ b → cond b (s ∷ filter (ties lt y) zs) (filter (ties lt y) zs) ≡ w ∷ ws → lt y z ≡ false) [
        | true ↦ λ t e. o.chain y s z (tie_parts y s t).0 h.0
        | false ↦ λ t e. later e
      ] refl e

  -- two ascending lists of which each element's ties stand in the same order are the same
  one_ascending : (ys zs : List X) → Ascends ys → Ascends zs → ((x : X) → filter (ties lt x) ys ≡ filter (ties lt x) zs) → ys ≡ zs
  one_ascending [] [] h k f = refl
  one_ascending [] (z ∷ zs) h k f = absurd (let e = f z in let s = tied z z (not_itself z) (not_itself z) in let e' : [] ≡ z ∷ filter (ties lt z) zs = rw s at e in cc)
  one_ascending (y ∷ ys) [] h k f = absurd (let e = f y in let s = tied y y (not_itself y) (not_itself y) in let e' : y ∷ filter (ties lt y) ys ≡ [] = rw s at e in cc)
  one_ascending (y ∷ ys) (z ∷ zs) h k f =
      let own_y = tied y y (not_itself y) (not_itself y) in
      let own_z = tied z z (not_itself z) (not_itself z) in
      let at_y : y ∷ filter (ties lt y) ys ≡ filter (ties lt y) (z ∷ zs) = rw own_y at (f y) in
      let at_z : filter (ties lt z) (y ∷ ys) ≡ z ∷ filter (ties lt z) zs = rw own_z at (f z) in
      let yz = not_before y z (z ∷ zs) (not_itself z, k.0) y (filter (ties lt y) ys) (sym at_y) in
      let zy = not_before z y (y ∷ ys) (not_itself y, h.0) z (filter (ties lt z) zs) at_z in
      let both = tied y z yz zy in
      let heads : y ∷ filter (ties lt y) ys ≡ z ∷ filter (ties lt y) zs = rw both at at_y in
      let same : y ≡ z = cc in
      let tails = one_ascending ys zs h.1 k.1 (λ x.
      let P : X → Type 0 = λ w. filter (ties lt x) (y ∷ ys) ≡ cond (ties lt x w) (w ∷ filter (ties lt x) zs) (filter (ties lt x) zs) in
      same_rest (ties lt x y) y (filter (ties lt x) ys) (filter (ties lt x) zs) (subst P (sym same) (f x))) in
      cc

-- whether a record's point comes before another's
abbrev pub comes_before : Record → Record → Bool
comes_before r s = is_lt (point_cmp r.key s.key)

pub comes_before_ranks : IsStrictWeakOrder comes_before
comes_before_ranks = ranks_by nat_list_cmp_total (λ (r : Record). r.key)

behind_is_before : (r s : Record) → is_gt (point_cmp r.key s.key) ≡ comes_before s r
behind_is_before r s = rw (nat_list_cmp_total.antisymm s.key r.key) (reversed (point_cmp r.key s.key))
  where
    reversed : (r : Ordering) → is_gt r ≡ is_lt (ordering_reverse r)
    reversed Less = refl
    reversed Equal = refl
    reversed Greater = refl

abbrev Rising : List Record → Type 0
Rising xs = Ascends comes_before comes_before_ranks xs

abbrev NoneEarlier : Record → List Record → Type 0
NoneEarlier z xs = NoneBefore comes_before comes_before_ranks z xs

none_earlier_put : (z r : Record) (xs : List Record) → NoneEarlier z xs → comes_before r z ≡ false → NoneEarlier z (with_record_in_order r xs)
none_earlier_put z r [] h k = (k, tt)
none_earlier_put z r (s ∷ xs) h k =
    elim (is_gt (point_cmp r.key s.key)) as (λ b. NoneEarlier z (cond b (s ∷ with_record_in_order r xs) (r ∷ s ∷ xs))) [
      | true ↦ (h.0, none_earlier_put z r xs h.1 k)
      | false ↦ (k, h)
    ]

none_earlier_weaker : (z s : Record) (xs : List Record) → NoneEarlier s xs → comes_before s z ≡ false → NoneEarlier z xs
none_earlier_weaker z s [] h k = tt
none_earlier_weaker z s (x ∷ xs) h k = (comes_before_ranks.chain x s z h.0 k, none_earlier_weaker z s xs h.1 k)

rising_put : (r : Record) (xs : List Record) → Rising xs → Rising (with_record_in_order r xs)
rising_put r [] h = (tt, tt)
rising_put r (s ∷ xs) h =
    elim (is_gt (point_cmp r.key s.key)) as (λ b. comes_before s r ≡ b → Rising (cond b (s ∷ with_record_in_order r xs) (r ∷ s ∷ xs))) [
      | true ↦ λ e. (none_earlier_put s r xs h.0 (comes_before_ranks.one_way s r e), rising_put r xs h.1)
      | false ↦ λ e. ((e, none_earlier_weaker r s xs h.0 e), h)
    ] (sym (behind_is_before r s))

rising_order : (xs : List Record) → Rising (in_point_order xs)
rising_order [] = tt
rising_order (r ∷ xs) = rising_put r (in_point_order xs) (rising_order xs)

-- what ties with a record stays in its order
put_step : (c d : Bool) (s r : Record) (u v : List Record) → (c ≡ true → d ≡ true → ⊥) → v ≡ cond d (r ∷ u) u → cond c (s ∷ v) v ≡ cond d (r ∷ cond c (s ∷ u) u) (cond c (s ∷ u) u)
put_step true true s r u v h e = absurd (h refl refl)
put_step true false s r u v h e = ap (λ w. s ∷ w) e
put_step false d s r u v h e = e

ties_put : (x r : Record) (xs : List Record) → filter (ties comes_before x) (with_record_in_order r xs) ≡ filter (ties comes_before x) (r ∷ xs)
ties_put x r [] = refl
ties_put x r (s ∷ xs) =
    let p = ties comes_before x in
    let later = ties_put x r xs in
    elim (is_gt (point_cmp r.key s.key)) as (λ b. comes_before s r ≡ b → filter p (cond b (s ∷ with_record_in_order r xs) (r ∷ s ∷ xs)) ≡ filter p (r ∷ s ∷ xs)) [
      | true ↦ λ e. put_step (p s) (p r) s r (filter p xs) (filter p (with_record_in_order r xs)) (λ c d.
          let before = comes_before_ranks.chain s x r (tie_parts comes_before comes_before_ranks x s c).1 (tie_parts comes_before comes_before_ranks x r d).0 in
          cc) later
      | false ↦ λ e. refl
    ] (sym (behind_is_before r s))

pub ties_order : (x : Record) (xs : List Record) → filter (ties comes_before x) (in_point_order xs) ≡ filter (ties comes_before x) xs
ties_order x [] = refl
ties_order x (r ∷ xs) = ties_put x r (in_point_order xs) ∙ ap (λ w. cond (ties comes_before x r) (r ∷ w) w) (ties_order x xs)

pub sorted_is_in_point_order : (xs ys : List Record) → IsSortedBy comes_before ys → IsStableBy comes_before xs ys → ys ≡ in_point_order xs
sorted_is_in_point_order xs ys up stable = one_ascending comes_before comes_before_ranks ys (in_point_order xs) (ascends comes_before comes_before_ranks ys up) (rising_order xs) (λ x. stable x ∙ sym (ties_order x xs))

-- what a sort gives whose closure compares the points
pub sorted_by_points : {F : Type 0} {g : Mut F (Bor Record × (Bor Record × Unit {0})) Ordering} {f : F} (xs ys : List Record) → IsSortedByClosure g f ys → IsStableByClosure g f xs ys → ((f : F) (a : Bor Record × (Bor Record × Unit {0})) (r : Ordering) (f' : F) → Called g f a r f' → r ≡ point_cmp a.0.now.key a.1.0.now.key) → ys ≡ in_point_order xs
sorted_by_points {g = g} {f = f} xs ys up stable h =
    let by = answers_always g (λ a r. is_lt r ≡ comes_before a.0.now a.1.0.now) f (λ f a r f' k. ap is_lt (h f a r f' k)) in
    sorted_is_in_point_order xs ys (up comes_before comes_before_ranks by) (stable comes_before comes_before_ranks by)

-- the order has the same records
put_permutes : (r : Record) (xs : List Record) → IsPermutation (r ∷ xs) (with_record_in_order r xs)
put_permutes r [] = IsPermutation-refl (r ∷ [])
put_permutes r (s ∷ xs) =
    elim (is_gt (point_cmp r.key s.key)) as (λ b. IsPermutation (r ∷ s ∷ xs) (cond b (s ∷ with_record_in_order r xs) (r ∷ s ∷ xs))) [
      | true ↦ IsPermutation-trans (r ∷ s ∷ xs) (s ∷ r ∷ xs) (s ∷ with_record_in_order r xs)
          (IsPermutation-sym (s ∷ r ∷ xs) (r ∷ s ∷ xs) (IsPermutation-middle (s ∷ []) r xs))
          (IsPermutation-cons s (r ∷ xs) (with_record_in_order r xs) (put_permutes r xs))
      | false ↦ IsPermutation-refl (r ∷ s ∷ xs)
    ]

pub order_permutes : (xs : List Record) → IsPermutation xs (in_point_order xs)
order_permutes [] = IsPermutation-refl []
order_permutes (r ∷ xs) =
    IsPermutation-trans (r ∷ xs) (r ∷ in_point_order xs) (in_point_order (r ∷ xs))
    (IsPermutation-cons r xs (in_point_order xs) (order_permutes xs))
    (put_permutes r (in_point_order xs))

-- and rises
sorted_of : (xs : List Record) → Rising xs → IsSortedBy comes_before xs
sorted_of [] h k d low high = absurd (omega arith)
sorted_of (x ∷ []) h k d low high = absurd (omega arith)
sorted_of (x ∷ y ∷ xs) h zero d low high = h.0.0
sorted_of (x ∷ y ∷ xs) h (suc k) d low high =
    let next : suc (k + 1) ≡ suc k + 1 = omega arith in
    let P : ℕ → Type 0 = λ n. comes_before (get_or (x ∷ y ∷ xs) n d) (get_or (y ∷ xs) k d) ≡ false in
    subst P next (sorted_of (y ∷ xs) h.1 k d (omega arith) (omega arith))

pub order_sorted : (xs : List Record) → IsSortedBy comes_before (in_point_order xs)
order_sorted xs = sorted_of (in_point_order xs) (rising_order xs)
