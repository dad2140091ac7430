-- A scan of two lists of leaves, one behind the other.
use Rattle.std.proofs.Common.{◌≡◌, inl, inr, ℕ, zero, suc, ◌+◌, ◌-◌, ◌==◌, ◌&&◌, Bool, true, false, cond, List, [], ◌∷◌, ◌++◌, length, IsTrue, ◌↔◌, Option, Some, None, refl, sym, ap, ◌∙◌, arith, eq-eqb}
use Rattle.std.specs.List.{Contains, list_any}
use Rattle.std.proofs.lemmas.Bool.{cases_Bool, or_left, or_right}
use Rattle.std.proofs.lemmas.List.{length-append}
use Rattle.hb_frag.specs.Leaves.{child_names, leaves}
use Rattle.hb_ops.proofs.Facts.NamedChildren.{named_leaf}
use Rattle.hb_frag.specs.declared.leaves.Leaf.{Leaf}
use Rattle.hb_frag.specs.declared.leaves.Leaf.TheVariants.{Records, Child, Sibling}
use Rattle.hb_frag.specs.declared.pages.LivePage.{LivePage}
use Rattle.hb_consol.specs.ConsolidatorRows.{names_child, one_on, pair_among}
use Rattle.hb_consol.specs.Doing.{IsScanned, found_behind}
use Rattle.hb_consol.specs.declared.scanning.Scanned.{Scanned}
use Rattle.hb_consol.specs.declared.scanning.Scanned.TheVariants.{Pair, Passed}

abbrev pub Found : Type 0
Found = Option (ℕ × ℕ)

-- what is found so many places further on
abbrev pub moved : ℕ → Found → Found
moved n None = None
moved n (Some (page, place)) = Some (page, n + place)

moved_none : (found : Found) → moved 0 found ≡ found
moved_none None = refl
moved_none (Some (page, place)) = ap (λ k. Some (page, k)) (let is : 0 + place ≡ place = omega arith in is)

one_moved : (n : ℕ) (found : Found) → one_on (moved n found) ≡ moved (suc n) found
one_moved n None = refl
one_moved n (Some (page, place)) = ap (λ k. Some (page, k)) (let is : n + place + 1 ≡ suc n + place = omega arith in is)

one_none : (found : Found) → one_on found ≡ None → found ≡ None
one_none None is = refl
one_none (Some (page, place)) is = absurd (let no : ⊥ = cc in no)

one_some : (front whole : Found) (p : ℕ × ℕ) → ((q : ℕ × ℕ) → front ≡ Some q → whole ≡ Some q) → one_on front ≡ Some p → one_on whole ≡ Some p
one_some None whole p later is = absurd (let no : ⊥ = cc in no)
one_some (Some q) whole p later is = ap one_on (later q refl) ∙ is

module _ (parent : LivePage) where
  -- what a front has is the first of both
  pub in_front : (from : ℕ) (xs ys : List Leaf) (p : ℕ × ℕ) → pair_among parent from xs ≡ Some p → pair_among parent from (xs ++ ys) ≡ Some p
  in_front from [] ys p is = absurd (let no : ⊥ = cc in no)
  in_front from (Records records ∷ xs) ys p is = one_some (pair_among parent (from - 1) xs) (pair_among parent (from - 1) (xs ++ ys)) p (λ q. in_front (from - 1) xs ys q) is
  in_front from (Child page ∷ xs) ys p is = one_some (pair_among parent (from - 1) xs) (pair_among parent (from - 1) (xs ++ ys)) p (λ q. in_front (from - 1) xs ys q) is
  in_front from (Sibling page ∷ xs) ys p is = by (λ q. in_front (from - 1) xs ys q) ((from == 0) && names_child parent page) is
    where
      by : ((q : ℕ × ℕ) → pair_among parent (from - 1) xs ≡ Some q → pair_among parent (from - 1) (xs ++ ys) ≡ Some q) → (b : Bool) → cond b (Some (page, 0)) (one_on (pair_among parent (from - 1) xs)) ≡ Some p
          → cond b (Some (page, 0)) (one_on (pair_among parent (from - 1) (xs ++ ys))) ≡ Some p
      by later true is = is
      by later false is = one_some (pair_among parent (from - 1) xs) (pair_among parent (from - 1) (xs ++ ys)) p later is

  -- one place more
  step : (from : ℕ) (xs ys : List Leaf) → pair_among parent (from - 1) (xs ++ ys) ≡ moved (length xs) (pair_among parent (from - 1 - length xs) ys)
      → one_on (pair_among parent (from - 1) (xs ++ ys)) ≡ moved (suc (length xs)) (pair_among parent (from - suc (length xs)) ys)
  step from xs ys is =
      let less : from - 1 - length xs ≡ from - suc (length xs) = omega arith in
      ap one_on is ∙ one_moved (length xs) (pair_among parent (from - 1 - length xs) ys) ∙ ap (λ (n : ℕ). moved (suc (length xs)) (pair_among parent n ys)) less

  -- where it has none, what the rest has is
  pub behind_all : (from : ℕ) (xs ys : List Leaf) → pair_among parent from xs ≡ None → pair_among parent from (xs ++ ys) ≡ moved (length xs) (pair_among parent (from - length xs) ys)
  behind_all from [] ys none =
      let all : from ≡ from - 0 = omega arith in
      ap (λ (n : ℕ). pair_among parent n ys) all ∙ sym (moved_none (pair_among parent (from - 0) ys))
  behind_all from (Records records ∷ xs) ys none = step from xs ys (behind_all (from - 1) xs ys (one_none (pair_among parent (from - 1) xs) none))
  behind_all from (Child page ∷ xs) ys none = step from xs ys (behind_all (from - 1) xs ys (one_none (pair_among parent (from - 1) xs) none))
  behind_all from (Sibling page ∷ xs) ys none = by (behind_all (from - 1) xs ys) ((from == 0) && names_child parent page) none
    where
      by : (pair_among parent (from - 1) xs ≡ None → pair_among parent (from - 1) (xs ++ ys) ≡ moved (length xs) (pair_among parent (from - 1 - length xs) ys)) → (b : Bool) → cond b (Some (page, 0)) (one_on (pair_among parent (from - 1) xs)) ≡ None → cond b (Some (page, 0)) (one_on (pair_among parent (from - 1) (xs ++ ys))) ≡ moved (suc (length xs)) (pair_among parent (from - suc (length xs)) ys)
      by later true none = absurd (let no : ⊥ = cc in no)
      by later false none = step from xs ys (later (one_none (pair_among parent (from - 1) xs) none))

  -- ---- scans

  pub found_in_front : (from : ℕ) (xs ys : List Leaf) (gone place : ℕ) → IsScanned parent from xs (Pair gone place) → IsScanned parent from (xs ++ ys) (Pair gone place)
  found_in_front from xs ys gone place scan =
      let both = length-append xs ys in
      let low = scan.1 in
      (in_front from xs ys (gone, place) scan.0, omega (arith, both, low))

  pub found_in_both : (from : ℕ) (xs ys : List Leaf) (count : ℕ) (rest : Scanned) → IsScanned parent from xs (Passed count) → IsScanned parent (from - count) ys rest → IsScanned parent from (xs ++ ys) (found_behind count rest)
  found_in_both from xs ys count (Pair gone place) scan then =
      let all = behind_all from xs ys scan.0 in
      let later = ap (λ (n : ℕ). pair_among parent (from - n) ys) (sym scan.1) ∙ then.0 in
      let both = length-append xs ys in
      let low = then.1 in
      let n = scan.1 in
      (all ∙ ap (moved (length xs)) later ∙ ap (λ k. Some (gone, k + place)) (sym n), omega (arith, both, low, n))
  found_in_both from xs ys count (Passed more) scan then =
      let all = behind_all from xs ys scan.0 in
      let later = ap (λ (n : ℕ). pair_among parent (from - n) ys) (sym scan.1) ∙ then.0 in
      let both = length-append xs ys in
      let m = then.1 in
      let n = scan.1 in
      (all ∙ ap (moved (length xs)) later, omega (arith, both, m, n))

-- ---- the pages that a parent names

-- and the other way
leaf_named : (name : ℕ) (ls : List Leaf) → Contains ls (Child name) → list_any (λ x. x == name) (child_names ls) ≡ true
leaf_named name [] has = absurd (omega (arith, has.1))
leaf_named name (Records records ∷ rest) (zero, lt, e) = absurd (let no : ⊥ = cc in no)
leaf_named name (Records records ∷ rest) (suc k, lt, e) = leaf_named name rest (k, omega (arith, lt), e)
leaf_named name (Sibling page ∷ rest) (zero, lt, e) = absurd (let no : ⊥ = cc in no)
leaf_named name (Sibling page ∷ rest) (suc k, lt, e) = leaf_named name rest (k, omega (arith, lt), e)
leaf_named name (Child page ∷ rest) (zero, lt, e) = let same : page ≡ name = cc in or_left (page == name) (list_any (λ x. x == name) (child_names rest)) (eq-eqb page name same)
leaf_named name (Child page ∷ rest) (suc k, lt, e) = or_right (page == name) (list_any (λ x. x == name) (child_names rest)) (leaf_named name rest (k, omega (arith, lt), e))

pub named_as_child : (b : Bool) (parent : LivePage) (id : ℕ) → (IsTrue b ↔ Contains (leaves parent.frag) (Child id)) → b ≡ names_child parent id
named_as_child true parent id test = sym (leaf_named id (leaves parent.frag) (test.0 refl))
named_as_child false parent id test = elim (cases_Bool (names_child parent id)) [
  | inl named ↦ absurd (let there = test.1 (named_leaf id (leaves parent.frag) named) in cc)
  | inr fails ↦ sym fails
]
