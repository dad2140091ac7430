-- Records in the order of their points: two such lists with the same members are one; and those of a set are such a list.
use Rattle.hb_steps.proofs.Searches.Names.{◌≡◌, ◌↔◌, inl, inr, ℕ, true, false, List, [], ◌∷◌, filter, All, AllPairs, Contains, Some, refl, sym, ap, ◌∙◌, subst, arith, cases_Bool, All-cons, All-contains, All-nil, each_member, filter_keeps, later_member, no_member, RecordSet, Holds-from_test, test-from_Holds, Area, Holds, IsArea, holds, Record, IsAmong}
use Rattle.std.proofs.Common.{zero, ◌&&◌, Bool, cond, T, map}
use Rattle.std.specs.FinMap as finite
use Rattle.std.specs.FinMap.Entries.{below_all, find, is_sorted}
use Rattle.std.specs.List.Sorted.{IsPermutation}
use Rattle.std.specs.Ordering.{eq_by_cmp, is_lt}
use Rattle.std.specs.declared.cmp.Ordering.{Ordering}
use Rattle.std.specs.declared.cmp.Ordering.TheVariants.{Less, Equal, Greater}
use Rattle.std.proofs.lemmas.List.Elements.{filter_passes, All-filter}
use Rattle.std.proofs.lemmas.List.Sorted.{Contains-permutation, IsPermutation-sym}
use Rattle.hb_frag.proofs.Facts.RisingRecords.{Rise, ahead, in_front, rises, same_rising}
use Rattle.hb_frag.specs.Rules.{Precedes}
use Rattle.hb_lemmas.proofs.Lists.{filter_has, member_cases}
use Rattle.hb_set.specs.Machine.{record_of, set_records}
use Rattle.hb_space.proofs.Facts.PointOrder.{not_itself, same_point}
use Rattle.hb_space.specs.Points.{point_cmp}
use Rattle.hb_lemmas.proofs.Orderings.{alike}
use Rattle.std.proofs.lemmas.Cmp.{nat_list_cmp_total}

-- ---- what a filter keeps

pub filter_tells : {X : Type 0} (p : X → Bool) (xs : List X) (x : X) → Contains (filter p xs) x → Contains xs x × (p x ≡ true)
filter_tells p xs x there = (filter_has p xs x there, All-contains (λ y. p y ≡ true) (filter p xs) x (filter_passes p xs) there)

-- ---- the records of a set

both_parts : (a b : Bool) → T (a && b) → T a × T b
both_parts true b h = (tt, h)
both_parts false b h = absurd h

less_so : (o : Ordering) → T (is_lt o) → o ≡ Less
less_so Less h = refl
less_so Equal h = absurd h
less_so Greater h = absurd h

below_rest : (x : List ℕ × List ℕ) (es : List (List ℕ × List ℕ)) → T (below_all point_cmp x.0 es) → All (Precedes (record_of x)) (map record_of es)
below_rest x [] below = All-nil (Precedes (record_of x))
below_rest x (e ∷ es) below =
    let parts = both_parts (is_lt (point_cmp x.0 e.0)) (below_all point_cmp x.0 es) below in
    All-cons (Precedes (record_of x)) (record_of e) (map record_of es) (less_so (point_cmp x.0 e.0) parts.0) (below_rest x es parts.1)

entries_rise : (es : List (List ℕ × List ℕ)) → T (is_sorted point_cmp es) → Rise (map record_of es)
entries_rise [] sorted = tt
entries_rise (e ∷ es) sorted =
    let parts = both_parts (below_all point_cmp e.0 es) (is_sorted point_cmp es) sorted in
    in_front (record_of e) (map record_of es) (below_rest e es parts.0) (entries_rise es parts.1)

pub records_rise : (n : RecordSet) → Rise (set_records n)
records_rise n = entries_rise (finite.entries n) (finite.entries_sorted n)

same_body : (e : List ℕ × List ℕ) (r : Record) → r.key ≡ e.0 → Some e.1 ≡ Some r.body → record_of e ≡ r
same_body e r key body =
    let same : e.1 ≡ r.body = cc in
    ap (λ (k : List ℕ). record_of (k, e.1)) (sym key) ∙ ap (λ (b : List ℕ). record_of (r.key, b)) same

found_member : (es : List (List ℕ × List ℕ)) (r : Record) → find point_cmp r.key es ≡ Some r.body → Contains (map record_of es) r
found_member [] r found = absurd (let no : ⊥ = cc in no)
found_member (e ∷ es) r found = elim (cases_Bool (eq_by_cmp point_cmp r.key e.0)) [
  | inl here ↦
      let body : Some e.1 ≡ Some r.body = subst (λ (b : Bool). cond b (Some e.1) (find point_cmp r.key es) ≡ Some r.body) here found in
      (zero, omega arith, same_body e r (same_point r.key e.0 here) body)
  | inr off ↦
      later_member (record_of e) (map record_of es) r (found_member es r (subst (λ (b : Bool). cond b (Some e.1) (find point_cmp r.key es) ≡ Some r.body) off found))
]

member_found : (es : List (List ℕ × List ℕ)) (r : Record) → Rise (map record_of es) → Contains (map record_of es) r → find point_cmp r.key es ≡ Some r.body
member_found [] r up there = absurd (no_member r there)
member_found (e ∷ es) r up there = elim (member_cases (record_of e) (map record_of es) r there) [
  | inl same ↦
      let tied = alike nat_list_cmp_total r.key e.0 (ap (λ (s : Record). s.key) (sym same)) in
      ap (λ (b : Bool). cond b (Some e.1) (find point_cmp r.key es)) tied ∙ ap (λ (s : Record). Some s.body) same
  | inr later ↦ elim (cases_Bool (eq_by_cmp point_cmp r.key e.0)) [
    | inl here ↦ absurd (not_itself e.0 r.key (sym (same_point r.key e.0 here)) (All-contains (Precedes (record_of e)) (map record_of es) r (ahead (record_of e) (map record_of es) up) later))
    | inr off ↦ ap (λ (b : Bool). cond b (Some e.1) (find point_cmp r.key es)) off ∙ member_found es r up.1 later
  ]
]

pub among_records : (n : RecordSet) (r : Record) → IsAmong n r ↔ Contains (set_records n) r
among_records n r = (
  λ among. found_member (finite.entries n) r (sym (finite.get-entries n r.key) ∙ among),
  λ there. finite.get-entries n r.key ∙ member_found (finite.entries n) r (records_rise n) there,
)

-- ---- the reply of a search

-- what a box holds of the contents, in the order of points, is one list
pub reply_is : (n : RecordSet) (box : Area) (found ordered : List Record) → IsArea box → ((r : Record) → Contains found r ↔ (IsAmong n r × Holds box r.key)) → IsPermutation found ordered → AllPairs Precedes ordered → ordered ≡ filter (λ r. holds box r.key) (set_records n)
reply_is n box found ordered area exact same rising =
    same_rising ordered (filter inside (set_records n)) (rises ordered rising) (filtered_rise (set_records n) (records_rise n))
    (each_member (Contains (filter inside (set_records n))) ordered (λ r there.
    let is = (exact r).0 (Contains-permutation ordered found r (IsPermutation-sym found ordered same) there) in
    filter_keeps inside (set_records n) r ((among_records n r).0 is.0) (test-from_Holds box r.key area is.1)))
    (each_member (Contains ordered) (filter inside (set_records n)) (λ r there.
    let is = filter_tells inside (set_records n) r there in
    Contains-permutation found ordered r same ((exact r).1 ((among_records n r).1 is.0, Holds-from_test box r.key is.1))))
  where
    inside : Record → Bool
    inside r = holds box r.key

    filtered_rise : (xs : List Record) → Rise xs → Rise (filter inside xs)
    filtered_rise [] up = tt
    filtered_rise (x ∷ xs) up = elim (inside x) as (λ b. Rise (cond b (x ∷ filter inside xs) (filter inside xs))) [
      | true ↦ in_front x (filter inside xs) (All-filter inside (Precedes x) xs (ahead x xs up)) (filtered_rise xs up.1)
      | false ↦ filtered_rise xs up.1
    ]
