-- Which records a box may hold, by the order of points: those between two places.
use Rattle.std.proofs.Common.{◌≡◌, ℕ, zero, suc, ◌+◌, ◌<◌, ◌≤◌, Bool, true, false, cond, List, [], ◌∷◌, ◌++◌, length, get_or, take, drop, filter, append_assoc, Box, All, leb, refl, sym, ap, subst, ◌∙◌, inl, inr, arith, get_or-take, get_or-drop, length-take, length-drop}
use Rattle.std.specs.List.{AllWithin}
use Rattle.std.specs.List.Sorted.{IsPartitionedBy, IsPartitionPoint}
use Rattle.std.specs.FinMap.Entries.{below_all}
use Rattle.std.specs.Ordering.{is_lt, nat_cmp, ordering_then}
use Rattle.std.specs.declared.alloc.Global.{Global}
use Rattle.std.specs.declared.cmp.Ordering.{Ordering}
use Rattle.std.specs.declared.cmp.Ordering.TheVariants.{Less}
use Rattle.std.proofs.lemmas.Cmp.{nat_list_cmp_total, ranked, by_ranked}
use Rattle.std.proofs.lemmas.Bool.{false≢true, cases_lt, lt-leb, le-leb, leb-true, leb-false, and_parts, and_left, and_right, and_from}
use Rattle.std.proofs.lemmas.List.{take-append-drop, map-append, append-nil}
use Rattle.std.proofs.lemmas.List.Elements.{filter-append, All-take, All-drop}
use Rattle.hb_space.specs.Points.{point_cmp}
use Rattle.hb_space.specs.Boxes.{Area, is_between, holds}
use Rattle.hb_space.specs.declared.records.Record.{Record}
use Rattle.hb_set.specs.Kept.{records_behind, entries_behind, PointsRise, AreSearchable, point_behind, body_behind}
use Rattle.hb_lemmas.proofs.Orderings.{less_so}
use Rattle.hb_lemmas.proofs.SortedEntries.{rise_at, below_at}

-- a point below the lower corner is not held
pub outside_below : (lo hi p : List ℕ) → point_cmp p lo ≡ Less → is_between lo hi p ≡ false
outside_below [] hi [] h = absurd (false≢true (ap is_lt h))
outside_below [] [] (x ∷ xs) h = refl
outside_below [] (y ∷ ys) (x ∷ xs) h = refl
outside_below (l ∷ ls) [] p h = refl
outside_below (l ∷ ls) (y ∷ ys) [] h = refl
outside_below (l ∷ ls) (y ∷ ys) (x ∷ xs) h = by_ranked (x < l) (x ≡ l) (l < x) (nat_cmp x l) (ranked x l _ refl)
    (λ o lt. and_left _ _ (and_left _ _ (lt-leb l x lt)))
    (λ o same. and_right _ _ (outside_below ls ys xs (subst (λ (r : Ordering). ordering_then r (point_cmp xs ls) ≡ Less) o h)))
    (λ o gt. absurd (false≢true (ap is_lt (subst (λ (r : Ordering). ordering_then r (point_cmp xs ls) ≡ Less) o h))))

-- nor is one whose first value is above the greatest one
pub outside_above : (lo hi p : List ℕ) → get_or hi 0 0 < get_or p 0 0 → is_between lo hi p ≡ false
outside_above lo hi [] h = absurd (omega arith)
outside_above [] [] (x ∷ xs) h = refl
outside_above [] (y ∷ ys) (x ∷ xs) h = refl
outside_above (l ∷ ls) [] (x ∷ xs) h = refl
outside_above (l ∷ ls) (y ∷ ys) (x ∷ xs) h = and_left _ _ (and_right _ _ (lt-leb x y h))

-- the first values don't fall where points rise
pub first_values_rise : (p q : List ℕ) → point_cmp p q ≡ Less → get_or p 0 0 ≤ get_or q 0 0
first_values_rise [] q h = omega arith
first_values_rise (x ∷ xs) [] h = absurd (false≢true (ap is_lt h))
first_values_rise (x ∷ xs) (y ∷ ys) h = by_ranked (x < y) (x ≡ y) (y < x) (nat_cmp x y) (ranked x y _ refl)
    (λ o lt. omega arith)
    (λ o same. omega arith)
    (λ o gt. absurd (false≢true (ap is_lt (subst (λ (r : Ordering). ordering_then r (point_cmp xs ys) ≡ Less) o h))))

-- the records below a corner stand before the others
pub below_parts : (hs : List (Box Record Global)) (lo : List ℕ) → PointsRise hs → IsPartitionedBy (λ h. is_lt (point_cmp h.value.key lo)) hs
below_parts hs lo r i j d le lt later = elim (cases_lt i j) [
  | inl before ↦ ap is_lt (nat_list_cmp_total.trans (get_or hs i d).value.key (get_or hs j d).value.key lo (rise_at nat_list_cmp_total point_behind body_behind hs r i j d before lt) (less_so _ later))
  | inr after ↦ subst (λ k. is_lt (point_cmp (get_or hs k d).value.key lo) ≡ true) {x = j} (omega arith) later
]

-- so do those whose first value is not above the greatest one
pub reach_parts : (hs : List (Box Record Global)) (limit : ℕ) → PointsRise hs → IsPartitionedBy (λ h. leb (get_or h.value.key 0 0) limit) hs
reach_parts hs limit r i j d le lt later = elim (cases_lt i j) [
  | inl before ↦ le-leb _ _ (omega (arith, first_values_rise (get_or hs i d).value.key (get_or hs j d).value.key (rise_at nat_list_cmp_total point_behind body_behind hs r i j d before lt), leb-true _ _ later))
  | inr after ↦ subst (λ k. leb (get_or (get_or hs k d).value.key 0 0) limit ≡ true) {x = j} (omega arith) later
]

-- so does each part of them
pub rise_drop : (hs : List (Box Record Global)) (n : ℕ) → PointsRise hs → PointsRise (drop n hs)
rise_drop hs zero r = r
rise_drop [] (suc n) r = r
rise_drop (h ∷ hs) (suc n) r = rise_drop hs n (and_parts _ _ r).1

-- none of these records is held
none_held : (p : Record → Bool) (hs : List (Box Record Global)) → All (λ h. p h.value ≡ false) hs → filter p (records_behind hs) ≡ []
none_held p [] none = refl
none_held p (h ∷ hs) none = ap (λ b. cond b (h.value ∷ filter p (records_behind hs)) (filter p (records_behind hs))) (none 0 h (omega arith)) ∙ none_held p hs (λ k d lt. none (suc k) d (omega arith))

-- the filter of two parts, one after the other
filter_parts : (p : Record → Bool) (hs : List (Box Record Global)) (n : ℕ) → filter p (records_behind hs) ≡ filter p (records_behind (take n hs)) ++ filter p (records_behind (drop n hs))
filter_parts p hs n =
    ap (λ (xs : List (Box Record Global)). filter p (records_behind xs)) (sym (take-append-drop n hs))
    ∙ ap (filter p) (map-append (λ (h : Box Record Global). h.value) (take n hs) (drop n hs))
    ∙ filter-append p (records_behind (take n hs)) (records_behind (drop n hs))

-- where a part has none, the other has all
pub filter_rest : (p : Record → Bool) (hs : List (Box Record Global)) (n : ℕ) → All (λ h. p h.value ≡ false) (take n hs) → filter p (records_behind (drop n hs)) ≡ filter p (records_behind hs)
filter_rest p hs n none = sym (filter_parts p hs n ∙ ap (λ rs. rs ++ filter p (records_behind (drop n hs))) (none_held p (take n hs) none))

pub filter_front : (p : Record → Bool) (hs : List (Box Record Global)) (n : ℕ) → All (λ h. p h.value ≡ false) (drop n hs) → filter p (records_behind (take n hs)) ≡ filter p (records_behind hs)
filter_front p hs n none = sym (filter_parts p hs n ∙ ap (λ rs. filter p (records_behind (take n hs)) ++ rs) (none_held p (drop n hs) none) ∙ append-nil (filter p (records_behind (take n hs))))

-- before the place for the lower corner no record is held
none_below : (a : Area) (hs : List (Box Record Global)) (n : ℕ) → n ≤ length hs → AllWithin (λ h. is_lt (point_cmp h.value.key a.lo) ≡ true) hs 0 n → All (λ h. holds a h.value.key ≡ false) (take n hs)
none_below a hs n le below k d lt =
    let within : k < n = omega (arith, simp length-take at lt) in
    rw get_or-take (outside_below a.lo a.hi (get_or hs k d).value.key (less_so _ (below k d (omega arith) within)))

-- nor behind the place for the greatest first value
none_above : (a : Area) (hs : List (Box Record Global)) (n : ℕ) → n ≤ length hs → AllWithin (λ h. leb (get_or h.value.key 0 0) (get_or a.hi 0 0) ≡ false) hs n (length hs) → All (λ h. holds a h.value.key ≡ false) (drop n hs)
none_above a hs n le above k d lt =
    let within : n + k < length hs = omega (arith, simp length-drop at lt) in
    rw get_or-drop (outside_above a.lo a.hi (get_or hs (n + k) d).value.key (leb-false _ _ (above (n + k) d (omega arith) within)))

-- so the records between the two places are all that the box may hold
pub filter_window : (a : Area) (hs rest : List (Box Record Global)) (m n : ℕ) → rest ≡ drop m hs → m ≤ length hs → n ≤ length rest
    → IsPartitionPoint (λ h. is_lt (point_cmp h.value.key a.lo) ≡ true) (λ h. is_lt (point_cmp h.value.key a.lo) ≡ false) hs m
    → IsPartitionPoint (λ h. leb (get_or h.value.key 0 0) (get_or a.hi 0 0) ≡ true) (λ h. leb (get_or h.value.key 0 0) (get_or a.hi 0 0) ≡ false) rest n
    → filter (λ r. holds a r.key) (records_behind (take n rest)) ≡ filter (λ r. holds a r.key) (records_behind hs)
filter_window a hs rest m n is mle nle below above =
    filter_front (λ r. holds a r.key) rest n (none_above a rest n nle above.1)
    ∙ ap (λ (xs : List (Box Record Global)). filter (λ r. holds a r.key) (records_behind xs)) is
    ∙ filter_rest (λ r. holds a r.key) hs m (none_below a hs m mle below.0)

-- what is below all of them is below each part of them
below_take : (p : List ℕ) (hs : List (Box Record Global)) (n : ℕ) → below_all point_cmp p (entries_behind hs) ≡ true → below_all point_cmp p (entries_behind (take n hs)) ≡ true
below_take p hs zero b = refl
below_take p [] (suc n) b = refl
below_take p (h ∷ hs) (suc n) b = and_from _ _ (and_parts _ _ b).0 (below_take p hs n (and_parts _ _ b).1)

pub rise_take : (hs : List (Box Record Global)) (n : ℕ) → PointsRise hs → PointsRise (take n hs)
rise_take hs zero r = refl
rise_take [] (suc n) r = refl
rise_take (h ∷ hs) (suc n) r = and_from _ _ (below_take h.value.key hs n (and_parts _ _ r).0) (rise_take hs n (and_parts _ _ r).1)

-- a point between one and another that starts with the same value starts with it too
agree_first : (x y : ℕ) (ps qs ls : List ℕ) → point_cmp (x ∷ ps) (y ∷ qs) ≡ Less → point_cmp (y ∷ qs) (x ∷ ls) ≡ Less → (point_cmp ps qs ≡ Less) × (point_cmp qs ls ≡ Less)
agree_first x y ps qs ls after before = by_ranked (x < y) (x ≡ y) (y < x) (nat_cmp x y) (ranked x y _ refl)
    (λ o lt. absurd (omega (arith, first_values_rise (y ∷ qs) (x ∷ ls) before)))
    (λ o same. (
      subst (λ (r : Ordering). ordering_then r (point_cmp ps qs) ≡ Less) o after,
      by_ranked (y < x) (y ≡ x) (x < y) (nat_cmp y x) (ranked y x _ refl)
          (λ u lt. absurd (omega arith))
          (λ u alike. subst (λ (r : Ordering). ordering_then r (point_cmp qs ls) ≡ Less) u before)
          (λ u gt. absurd (omega arith)),
    ))
    (λ o gt. absurd (omega (arith, first_values_rise (x ∷ ps) (y ∷ qs) after)))

-- no point comes after itself as nothing
no_end : (p : List ℕ) → point_cmp p [] ≡ Less → ⊥
no_end [] h = false≢true (ap is_lt h)
no_end (x ∷ xs) h = false≢true (ap is_lt h)

-- No point of the box lies between p and what agrees with p before an attribute and goes on as the lower corner does.
pub outside_least : (a : ℕ) (lo hi p q : List ℕ) → a < length p → point_cmp p q ≡ Less → point_cmp q (take a p ++ drop a lo) ≡ Less → is_between lo hi q ≡ false
outside_least zero lo hi p q lt after before = outside_below lo hi q before
outside_least (suc a) lo hi [] q lt after before = absurd (omega arith)
outside_least (suc a) lo hi (x ∷ ps) [] lt after before = absurd (no_end (x ∷ ps) after)
outside_least (suc a) [] [] (x ∷ ps) (y ∷ qs) lt after before = refl
outside_least (suc a) [] (h ∷ hs) (x ∷ ps) (y ∷ qs) lt after before = refl
outside_least (suc a) (l ∷ ls) [] (x ∷ ps) (y ∷ qs) lt after before = refl
outside_least (suc a) (l ∷ ls) (h ∷ hs) (x ∷ ps) (y ∷ qs) lt after before =
    let rest = agree_first x y ps qs (take a ps ++ drop a ls) after before in
    and_right _ _ (outside_least a ls hs ps qs (omega arith) rest.0 rest.1)

-- Nor between p, whose value there is above the greatest one, and what agrees with p before the attribute.
pub outside_greatest : (a m : ℕ) (lo hi p q : List ℕ) → a < length p → get_or hi a 0 < get_or p a 0 → point_cmp p q ≡ Less → point_cmp q (take a p ++ m ∷ []) ≡ Less → is_between lo hi q ≡ false
outside_greatest zero m lo hi p q lt above after before = outside_above lo hi q (omega (arith, first_values_rise p q after))
outside_greatest (suc a) m lo hi [] q lt above after before = absurd (omega arith)
outside_greatest (suc a) m lo hi (x ∷ ps) [] lt above after before = absurd (no_end (x ∷ ps) after)
outside_greatest (suc a) m [] [] (x ∷ ps) (y ∷ qs) lt above after before = refl
outside_greatest (suc a) m [] (h ∷ hs) (x ∷ ps) (y ∷ qs) lt above after before = refl
outside_greatest (suc a) m (l ∷ ls) [] (x ∷ ps) (y ∷ qs) lt above after before = refl
outside_greatest (suc a) m (l ∷ ls) (h ∷ hs) (x ∷ ps) (y ∷ qs) lt above after before =
    let rest = agree_first x y ps qs (take a ps ++ m ∷ []) after before in
    and_right _ _ (outside_greatest a m ls hs ps qs (omega arith) (omega arith) rest.0 rest.1)

-- so the records behind p and before a limit like these are not held, as far as one looked
pub filter_limit : (a : Area) (p limit : List ℕ) (hs : List (Box Record Global)) (m n : ℕ) → n ≤ m → m ≤ length hs
    → ((q : List ℕ) → point_cmp p q ≡ Less → point_cmp q limit ≡ Less → holds a q ≡ false)
    → All (λ h. point_cmp p h.value.key ≡ Less) hs
    → AllWithin (λ h. is_lt (point_cmp h.value.key limit) ≡ true) (take m hs) 0 n
    → filter (λ r. holds a r.key) (records_behind (drop n hs)) ≡ filter (λ r. holds a r.key) (records_behind hs)
filter_limit a p limit hs m n near le skips behind below = filter_rest (λ r. holds a r.key) hs n (λ k d lt.
    let within : k < n = omega (arith, simp length-take at lt) in
    let looked_at : k < m = omega arith in
    let under : is_lt (point_cmp (get_or (take m hs) k d).value.key limit) ≡ true = below k d (omega arith) within in
    rw get_or-take (skips (get_or hs k d).value.key (behind k d (omega arith)) (less_so _ (rw get_or-take at under))))

-- what may be searched may be searched behind its first record, up to a place and from one on
pub searchable_tail : (k : ℕ) (hs later : List (Box Record Global)) (h : Box Record Global) → hs ≡ h ∷ later → AreSearchable k hs → AreSearchable k later
searchable_tail k hs later h is are =
    let all : AreSearchable k (h ∷ later) = subst (AreSearchable k) is are in
    record { rise = (and_parts _ _ all.rise).1; attributes = λ i d lt. all.attributes (suc i) d (omega arith) }

pub first_has : (k : ℕ) (hs later : List (Box Record Global)) (h : Box Record Global) → hs ≡ h ∷ later → AreSearchable k hs → length h.value.key ≡ k
first_has k hs later h is are = (subst (AreSearchable k) is are).attributes zero h (omega arith)

pub searchable_take : (k : ℕ) (hs : List (Box Record Global)) (n : ℕ) → AreSearchable k hs → AreSearchable k (take n hs)
searchable_take k hs n are = record { rise = rise_take hs n are.rise; attributes = All-take (λ h. length h.value.key ≡ k) n hs are.attributes }

pub searchable_drop : (k : ℕ) (hs : List (Box Record Global)) (n : ℕ) → AreSearchable k hs → AreSearchable k (drop n hs)
searchable_drop k hs n are = record { rise = rise_drop hs n are.rise; attributes = All-drop (λ h. length h.value.key ≡ k) n hs are.attributes }

-- and the first point is below the others
pub first_below : (hs later : List (Box Record Global)) (h : Box Record Global) → hs ≡ h ∷ later → PointsRise hs → All (λ x. point_cmp h.value.key x.value.key ≡ Less) later
first_below hs later h is r k d lt = below_at nat_list_cmp_total point_behind body_behind h.value.key later k d (and_parts _ _ (subst PointsRise is r)).0 lt

-- a record that the box holds goes from the rest to those that are held
pub held_more : (a : Area) (held : List Record) (hs later : List (Box Record Global)) (h : Box Record Global) → hs ≡ h ∷ later → holds a h.value.key ≡ true
    → (held ++ h.value ∷ []) ++ filter (λ r. holds a r.key) (records_behind later) ≡ held ++ filter (λ r. holds a r.key) (records_behind hs)
held_more a held hs later h is in_box =
    append_assoc held (h.value ∷ []) (filter (λ r. holds a r.key) (records_behind later))
    ∙ ap (λ rs. held ++ rs) (sym (ap (λ xs. filter (λ r. holds a r.key) (records_behind xs)) is ∙ ap (λ b. cond b (h.value ∷ filter (λ r. holds a r.key) (records_behind later)) (filter (λ r. holds a r.key) (records_behind later))) in_box))
