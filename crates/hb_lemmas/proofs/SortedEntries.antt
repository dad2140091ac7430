-- Elements whose keys rise, as the entries of a map: what the map has of them, and what an edit of the elements makes of it.
use Rattle.std.proofs.Common.{◌≡◌, ℕ, zero, suc, ◌<◌, Bool, true, false, cond, not, List, [], ◌∷◌, length, map, get_or, AllPairs, Some, None, IsTrue, T, refl, sym, ap, subst, ◌∙◌, arith}
use Rattle.std.specs.List.{insert, remove}
use Rattle.std.specs.Cmp.{IsTotalOrder, alike_right, eq_by_cmp_equiv}
use Rattle.std.specs.Ordering.{is_eq, eq_by_cmp}
use Rattle.std.specs.declared.cmp.Ordering.{Ordering}
use Rattle.std.specs.declared.cmp.Ordering.TheVariants.{Less, Equal, Greater}
use Rattle.std.specs.FinMap as finite
use Rattle.std.specs.FinMap.{IsAntisymmetric, find, put, is_sorted}
use Rattle.std.specs.FinMap.Entries.{below_all, by_order, where_key, find-where_key, is_sorted-put, is_sorted-where_key}
use Rattle.std.proofs.lemmas.Cmp.{tied_itself}
use Rattle.std.proofs.lemmas.Bool.{and_parts}
use Rattle.std.proofs.Math.ListN.{set}
use Rattle.hb_lemmas.proofs.Booleans.{T_true, cond-not}
use Rattle.hb_lemmas.proofs.Orderings.{alike, equal_so, less_so, reversed}
use Rattle.hb_lemmas.proofs.Places.{at_later, gap_first, gap_later}
use Rattle.hb_lemmas.specs.Places.{IsPlaceOf, IsGapFor}

-- ---- entries

module _ {K V : Type 0} {cmp : K → K → Ordering} (order : IsTotalOrder cmp) where
  -- the entries without that of a key
  abbrev pub without : K → List (K × V) → List (K × V)
  without p es = where_key cmp (λ x. not (eq_by_cmp cmp p x)) es

  sorted_without : (m : finite.FinMap cmp V) (p : K) → T (is_sorted cmp (without p (finite.entries m)))
  sorted_without m p = is_sorted-where_key cmp (λ x. not (eq_by_cmp cmp p x)) (finite.entries m) (finite.entries_sorted m)

  -- what a removal leaves, as entries
  pub entries-remove : IsAntisymmetric cmp → (m : finite.FinMap cmp V) (p : K) → finite.entries (finite.remove m p) ≡ without p (finite.entries m)
  entries-remove exact m p =
      let same : finite.remove m p ≡ finite.from_sorted (without p (finite.entries m)) = finite.same_map order exact _ _ (λ q.
      finite.get-remove order m p q
      ∙ ap (cond (eq_by_cmp cmp q p) None) (finite.get-entries m q)
      ∙ sym (finite.get-from_sorted cmp (without p (finite.entries m)) q (sorted_without m p)
      ∙ find-where_key cmp (λ x. not (eq_by_cmp cmp p x)) q (λ x t. ap (λ o. not (is_eq o)) (sym (alike_right order q x p t))) (finite.entries m)
      ∙ cond-not (eq_by_cmp cmp p q) _ _
      ∙ ap (λ b. cond b None (find cmp q (finite.entries m))) ((eq_by_cmp_equiv order).symm p q))) in
      ap finite.entries same ∙ finite.entries-from_sorted cmp (without p (finite.entries m)) (sorted_without m p)

-- ---- elements by their keys, each with a value

module _ {X K V : Type 0} {cmp : K → K → Ordering} (order : IsTotalOrder cmp) (key : X → K) (value : X → V) where
  abbrev pub entries : List X → List (K × V)
  entries xs = map (λ x. (key x, value x)) xs

  abbrev pub Rise : List X → Type 0
  Rise xs = IsTrue (is_sorted cmp (entries xs))

  -- a key below all others is below each of them
  pub below_at : (p : K) (xs : List X) (i : ℕ) (d : X) → below_all cmp p (entries xs) ≡ true → i < length xs → cmp p (key (get_or xs i d)) ≡ Less
  below_at p [] i d b lt = absurd (omega arith)
  below_at p (x ∷ xs) zero d b lt = less_so _ (and_parts _ _ b).0
  below_at p (x ∷ xs) (suc i) d b lt = below_at p xs i d (and_parts _ _ b).1 (omega arith)

  -- the key at an earlier place is the lesser one
  pub rise_at : (xs : List X) → Rise xs → AllPairs (λ x y. cmp (key x) (key y) ≡ Less) xs
  rise_at [] r i j d lt in_range = absurd (omega arith)
  rise_at (x ∷ xs) r i zero d lt in_range = absurd (omega arith)
  rise_at (x ∷ xs) r zero (suc j) d lt in_range = below_at (key x) xs j d (and_parts _ _ r).0 (omega arith)
  rise_at (x ∷ xs) r (suc i) (suc j) d lt in_range = rise_at xs (and_parts _ _ r).1 i j d (omega arith) (omega arith)

  -- a first key that is greater than p, or lesser
  above_first : (p q : K) → cmp q p ≡ Greater → eq_by_cmp cmp p q ≡ false
  above_first p q h = ap is_eq (reversed order q p Greater h)

  below_first : (p q : K) → cmp q p ≡ Less → eq_by_cmp cmp p q ≡ false
  below_first p q h = ap is_eq (reversed order q p Less h)

  -- before the place of the key stand lesser ones
  lesser_first : (x : X) (xs : List X) (p : K) (i : ℕ) → Rise (x ∷ xs) → IsPlaceOf key (x ∷ xs) p (suc i) → cmp (key x) p ≡ Less
  lesser_first x xs p i r at = subst (λ (k : K). cmp (key x) k ≡ Less) (at.same_key x) (rise_at (x ∷ xs) r zero (suc i) x (omega arith) at.in_range)

  -- the value under the key is the one at its place
  pub find_at : (xs : List X) (p : K) (i : ℕ) (d : X) → Rise xs → IsPlaceOf key xs p i → find cmp p (entries xs) ≡ Some (value (get_or xs i d))
  find_at [] p i d r at = absurd (omega (arith, at.in_range))
  find_at (x ∷ xs) p zero d r at = ap (λ b. cond b (Some (value x)) (find cmp p (entries xs))) (alike order p (key x) (sym (at.same_key d)))
  find_at (x ∷ xs) p (suc i) d r at =
      ap (λ b. cond b (Some (value x)) (find cmp p (entries xs))) (below_first p (key x) (lesser_first x xs p i r at))
      ∙ find_at xs p i d (and_parts _ _ r).1 (at_later key x xs p i at)

  -- a key with a gap is not there
  pub find_gap : (xs : List X) (p : K) (i : ℕ) → IsGapFor cmp key xs p i → find cmp p (entries xs) ≡ None
  find_gap [] p i gap = refl
  find_gap (x ∷ xs) p zero gap =
      ap (λ b. cond b (Some (value x)) (find cmp p (entries xs))) (above_first p (key x) (gap.greater_after 0 x (omega arith) (omega arith)))
      ∙ find_gap xs p zero (gap_first key x xs p gap)
  find_gap (x ∷ xs) p (suc i) gap =
      ap (λ b. cond b (Some (value x)) (find cmp p (entries xs))) (below_first p (key x) (gap.lesser_before 0 x (omega arith) (omega arith)))
      ∙ find_gap xs p i (gap_later key x xs p i gap)

  -- an element that goes into its gap is put among the entries
  abbrev put_first : X → X → List X → Ordering → List (K × V)
  put_first n x xs o = by_order o ((key n, value n) ∷ entries (x ∷ xs)) ((key x, value n) ∷ entries xs) ((key x, value x) ∷ put cmp (key n) (value n) (entries xs))

  pub put_gap : (xs : List X) (n : X) (i : ℕ) → IsGapFor cmp key xs (key n) i → put cmp (key n) (value n) (entries xs) ≡ entries (insert xs i n)
  put_gap [] n zero gap = refl
  put_gap [] n (suc i) gap = refl
  put_gap (x ∷ xs) n zero gap = ap (put_first n x xs) (reversed order (key x) (key n) Greater (gap.greater_after 0 x (omega arith) (omega arith)))
  put_gap (x ∷ xs) n (suc i) gap =
      ap (put_first n x xs) (reversed order (key x) (key n) Less (gap.lesser_before 0 x (omega arith) (omega arith)))
      ∙ ap (λ es. (key x, value x) ∷ es) (put_gap xs n i (gap_later key x xs (key n) i gap))

  -- another value at a key's place is put among the entries
  pub put_at : (xs : List X) (n : X) (i : ℕ) → Rise xs → IsPlaceOf key xs (key n) i → put cmp (key n) (value n) (entries xs) ≡ entries (set xs i n)
  put_at [] n i r at = absurd (omega (arith, at.in_range))
  put_at (x ∷ xs) n zero r at =
      ap (put_first n x xs) (subst (λ (k : K). cmp (key n) k ≡ Equal) (sym (at.same_key x)) (tied_itself order (key n)))
      ∙ ap (λ (k : K). (k, value n) ∷ entries xs) (at.same_key x)
  put_at (x ∷ xs) n (suc i) r at =
      ap (put_first n x xs) (reversed order (key x) (key n) Less (lesser_first x xs (key n) i r at))
      ∙ ap (λ es. (key x, value x) ∷ es) (put_at xs n i (and_parts _ _ r).1 (at_later key x xs (key n) i at))

  -- a first entry stays or goes
  abbrev kept_first : List (K × V) → X → Bool → List (K × V)
  kept_first es x goes = cond (not goes) ((key x, value x) ∷ es) es

  -- nothing goes where all keys are greater
  without_below : (p : K) (xs : List X) → below_all cmp p (entries xs) ≡ true → without order p (entries xs) ≡ entries xs
  without_below p [] b = refl
  without_below p (x ∷ xs) b =
      ap (kept_first (without order p (entries xs)) x) (ap is_eq (less_so _ (and_parts _ _ b).0))
      ∙ ap (λ es. (key x, value x) ∷ es) (without_below p xs (and_parts _ _ b).1)

  -- to remove the element at the key's place is to leave the key out
  pub without_at : (xs : List X) (p : K) (i : ℕ) → Rise xs → IsPlaceOf key xs p i → without order p (entries xs) ≡ entries (remove xs i)
  without_at [] p i r at = absurd (omega (arith, at.in_range))
  without_at (x ∷ xs) p zero r at =
      ap (kept_first (without order p (entries xs)) x) (alike order p (key x) (sym (at.same_key x)))
      ∙ without_below p xs (subst (λ (k : K). below_all cmp k (entries xs) ≡ true) (at.same_key x) (and_parts _ _ r).0)
  without_at (x ∷ xs) p (suc i) r at =
      ap (kept_first (without order p (entries xs)) x) (below_first p (key x) (lesser_first x xs p i r at))
      ∙ ap (λ es. (key x, value x) ∷ es) (without_at xs p i (and_parts _ _ r).1 (at_later key x xs p i at))

  -- what is found stands at a place
  pub place_found : IsAntisymmetric cmp → (xs : List X) (p : K) (v : V) (d : X) → find cmp p (entries xs) ≡ Some v → (i : ℕ) × (i < length xs) × (key (get_or xs i d) ≡ p) × (value (get_or xs i d) ≡ v)
  place_found exact [] p v d is = cc
  place_found exact (x ∷ xs) p v d is =
      elim (eq_by_cmp cmp p (key x)) as (λ b. eq_by_cmp cmp p (key x) ≡ b → cond b (Some (value x)) (find cmp p (entries xs)) ≡ Some v → (i : ℕ) × (i < length (x ∷ xs)) × (key (get_or (x ∷ xs) i d) ≡ p) × (value (get_or (x ∷ xs) i d) ≡ v)) [
        | true ↦ λ tied found. (0, omega arith, sym (exact p (key x) (equal_so _ tied)), cc)
        | false ↦ λ tied found.
            let later = place_found exact xs p v d found in
            (suc later.0, omega (arith, later.1), later.2, later.3)
      ] refl is

  -- ---- the map of the elements

  abbrev pub map_of : List X → finite.FinMap cmp V
  map_of xs = finite.from_sorted (entries xs)

  sorted_T : (xs : List X) → Rise xs → T (is_sorted cmp (entries xs))
  sorted_T xs r = subst T (sym r) tt

  pub entries_are : (xs : List X) → Rise xs → finite.entries (map_of xs) ≡ entries xs
  entries_are xs r = finite.entries-from_sorted cmp (entries xs) (sorted_T xs r)

  -- what it has at a key
  pub get_is : (xs : List X) (p : K) → Rise xs → finite.get (map_of xs) p ≡ find cmp p (entries xs)
  get_is xs p r = finite.get-from_sorted cmp (entries xs) p (sorted_T xs r)

  pub get_at : (xs : List X) (p : K) (i : ℕ) (d : X) → Rise xs → IsPlaceOf key xs p i → finite.get (map_of xs) p ≡ Some (value (get_or xs i d))
  get_at xs p i d r at = get_is xs p r ∙ find_at xs p i d r at

  pub get_gap : (xs : List X) (p : K) (i : ℕ) → Rise xs → IsGapFor cmp key xs p i → finite.get (map_of xs) p ≡ None
  get_gap xs p i r gap = get_is xs p r ∙ find_gap xs p i gap

  -- an element goes into its gap, another one takes its place, and it goes
  pub rise_insert : (xs : List X) (n : X) (i : ℕ) → Rise xs → IsGapFor cmp key xs (key n) i → Rise (insert xs i n)
  rise_insert xs n i r gap = T_true _ (subst (λ es. T (is_sorted cmp es)) (put_gap xs n i gap) (is_sorted-put cmp order (key n) (value n) (entries xs) (sorted_T xs r)))

  pub map_insert : (xs : List X) (n : X) (i : ℕ) → Rise xs → IsGapFor cmp key xs (key n) i → map_of (insert xs i n) ≡ finite.insert (map_of xs) (key n) (value n)
  map_insert xs n i r gap = finite.same_entries_map _ _ (
      entries_are (insert xs i n) (rise_insert xs n i r gap)
      ∙ sym (finite.entries-insert order (map_of xs) (key n) (value n) ∙ ap (put cmp (key n) (value n)) (entries_are xs r) ∙ put_gap xs n i gap))

  pub rise_set : (xs : List X) (n : X) (i : ℕ) → Rise xs → IsPlaceOf key xs (key n) i → Rise (set xs i n)
  rise_set xs n i r at = T_true _ (subst (λ es. T (is_sorted cmp es)) (put_at xs n i r at) (is_sorted-put cmp order (key n) (value n) (entries xs) (sorted_T xs r)))

  pub map_set : (xs : List X) (n : X) (i : ℕ) → Rise xs → IsPlaceOf key xs (key n) i → map_of (set xs i n) ≡ finite.insert (map_of xs) (key n) (value n)
  map_set xs n i r at = finite.same_entries_map _ _ (
      entries_are (set xs i n) (rise_set xs n i r at)
      ∙ sym (finite.entries-insert order (map_of xs) (key n) (value n) ∙ ap (put cmp (key n) (value n)) (entries_are xs r) ∙ put_at xs n i r at))

  pub rise_remove : (xs : List X) (p : K) (i : ℕ) → Rise xs → IsPlaceOf key xs p i → Rise (remove xs i)
  rise_remove xs p i r at = T_true _ (subst (λ es. T (is_sorted cmp es)) (without_at xs p i r at) (is_sorted-where_key cmp (λ x. not (eq_by_cmp cmp p x)) (entries xs) (sorted_T xs r)))

  pub map_remove : IsAntisymmetric cmp → (xs : List X) (p : K) (i : ℕ) → Rise xs → IsPlaceOf key xs p i → map_of (remove xs i) ≡ finite.remove (map_of xs) p
  map_remove exact xs p i r at = finite.same_entries_map _ _ (
      entries_are (remove xs i) (rise_remove xs p i r at)
      ∙ sym (entries-remove order exact (map_of xs) p ∙ ap (without order p) (entries_are xs r) ∙ without_at xs p i r at))

  -- of no element
  pub map_empty : (xs : List X) → xs ≡ [] → map_of xs ≡ finite.empty
  map_empty xs none = ap map_of none ∙ finite.empty_of_len (map_of []) (finite.len-entries (map_of []) ∙ ap length (entries_are [] refl))
