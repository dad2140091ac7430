-- How many leaves of a page hold a point, by their kinds.
use Rattle.std.proofs.Common.{◌≡◌, ◌≢◌, ℕ, ◌+◌, Bool, true, false, cond, List, [], ◌∷◌, flat_map, map, length, get_or, inl, inr, refl, sym, ap, subst, ◌∙◌, arith}
use Rattle.std.specs.List.{count_by, AllByRecursion}
use Rattle.std.proofs.lemmas.Bool.{cases_lt, false≢true}
use Rattle.std.proofs.lemmas.Grind.{flat_map-append}
use Rattle.std.proofs.lemmas.List.Sums.{sum_by-append, sum_by-cons}
use Rattle.hb_space.specs.Boxes.{Area, Cuts, Holds, IsArea, holds, side_below, side_from}
use Rattle.hb_space.proofs.Facts.Boxes.{Holds-side_below, Holds-side_from, Holds-from_test, test-from_Holds}
use Rattle.hb_frag.specs.declared.leaves.Leaf.{Leaf}
use Rattle.hb_frag.specs.declared.leaves.Leaf.TheVariants.{Records, Child, Sibling}
use Rattle.hb_frag.specs.Trees.{Tree, Tip, Cut}
use Rattle.hb_frag.specs.Leaves.{IsWellCut, Placed, leaves_of, siblings}
use Rattle.hb_frag.specs.Rules.{BelongsAt}
use Rattle.hb_frag.proofs.Facts.Sides.{IsArea-side_below, IsArea-side_from, failed_test, not_below, not_from, outside_below, outside_from, same-side_from}
use Rattle.hb_frag.proofs.Facts.NamesListed.{siblings-append}
use Rattle.hb_lemmas.proofs.Lists.{whole}
use Rattle.hb_map.specs.Boxes.{if_records}

-- a test as a number
abbrev pub one_if : Bool → ℕ
one_if b = cond b 1 0

-- one leaf of a tree holds a point of its box, and none another point
pub one_leaf : (t : Tree) (area : Area) (p : List ℕ) → IsArea area → IsWellCut t area → length p ≡ length area.lo → count_by (λ (l : Placed). holds l.area p) (leaves_of t area) ≡ cond (holds area p) 1 0
one_leaf (Tip leaf) area p box cut same = sum_by-cons (λ (l : Placed). cond (holds l.area p) 1 0) (record { leaf = leaf; area = area }) [] ∙ omega arith
one_leaf (Cut axis value left right) area p box cut same =
    let below = side_below area axis value in
    let from = side_from area axis value in
    let one = one_leaf left below p (IsArea-side_below area axis value box cut.0) cut.1 same in
    let two = one_leaf right from p (IsArea-side_from area axis value box cut.0) cut.2 (same ∙ sym (same-side_from area axis value)) in
    let both = sum_by-append (λ (l : Placed). cond (holds l.area p) 1 0) (leaves_of left below) (leaves_of right from) in
    let sides = one_side area axis value p box cut.0 same in
    omega (arith, one, two, both, sides)
  where
    one_side : (area : Area) (axis value : ℕ) (p : List ℕ) → IsArea area → Cuts area axis value → length p ≡ length area.lo → cond (holds (side_below area axis value) p) 1 0 + cond (holds (side_from area axis value) p) 1 0 ≡ cond (holds area p) 1 0
    one_side area axis value p box cut same =
        let low = IsArea-side_below area axis value box cut in
        let high = IsArea-side_from area axis value box cut in
        let same_high : length p ≡ length (side_from area axis value).lo = same ∙ sym (same-side_from area axis value) in
        let is : Bool → Bool → Bool → Type 0 = λ b c a. cond b 1 0 + cond c 1 0 ≡ cond a 1 0 in
        elim (holds area p) as (λ a. holds area p ≡ a → is (holds (side_below area axis value) p) (holds (side_from area axis value) p) a) [
          | true ↦ λ test.
              let held = Holds-from_test area p test in
              elim (cases_lt (get_or p axis 0) value) [
                | inl less ↦
                    let here = test-from_Holds (side_below area axis value) p low ((Holds-side_below area axis value p box cut).1 (held, less)) in
                    let there = failed_test (side_from area axis value) p (λ h. not_from area axis value p cut less h) in
                    rw (here, there) refl
                | inr more ↦
                    let here = test-from_Holds (side_from area axis value) p high ((Holds-side_from area axis value p cut).1 (held, more)) in
                    let there = failed_test (side_below area axis value) p (λ h. not_below area axis value p box cut more h) in
                    rw (there, here) refl
              ]
          | false ↦ λ test.
              let outside : Holds area p → ⊥ = λ h. false≢true (sym test ∙ test-from_Holds area p box h) in
              let here = failed_test (side_below area axis value) p (outside_below area axis value p box cut outside) in
              let there = failed_test (side_from area axis value) p (outside_from area axis value p cut outside) in
              rw (here, there) refl
        ] refl

-- how many boxes of records and how many holes of these leaves hold the point
abbrev pub by_records : List ℕ → List Placed → ℕ
by_records p placed = count_by (λ (a : Area). holds a p) (flat_map (λ (l : Placed). if_records l.leaf l.area) placed)

abbrev pub by_holes : List ℕ → List Placed → ℕ
by_holes p placed = count_by (λ (s : ℕ × Area). holds s.1 p) (siblings placed)

records_behind : (p : List ℕ) (x : Placed) (rest : List Placed) → by_records p (x ∷ rest) ≡ by_records p (x ∷ []) + by_records p rest
records_behind p x rest =
    ap (count_by (λ (a : Area). holds a p)) (flat_map-append (λ (l : Placed). if_records l.leaf l.area) (x ∷ []) rest)
    ∙ sum_by-append (λ (a : Area). cond (holds a p) 1 0) (flat_map (λ (l : Placed). if_records l.leaf l.area) (x ∷ [])) (flat_map (λ (l : Placed). if_records l.leaf l.area) rest)

holes_behind : (p : List ℕ) (x : Placed) (rest : List Placed) → by_holes p (x ∷ rest) ≡ by_holes p (x ∷ []) + by_holes p rest
holes_behind p x rest =
    ap (count_by (λ (s : ℕ × Area). holds s.1 p)) (siblings-append (x ∷ []) rest)
    ∙ sum_by-append (λ (s : ℕ × Area). cond (holds s.1 p) 1 0) (siblings (x ∷ [])) (siblings rest)

-- the leaves of a page of level 0 are of these two kinds
one_kind : (p : List ℕ) (leaf : Leaf) (area : Area) → BelongsAt 0 leaf → cond (holds area p) 1 0 ≡ by_records p (record { leaf = leaf; area = area } ∷ []) + by_holes p (record { leaf = leaf; area = area } ∷ [])
one_kind p (Records records) area on = omega arith
one_kind p (Child page) area on = absurd (omega (arith, on))
one_kind p (Sibling page) area on = omega arith

pub two_kinds : (p : List ℕ) (placed : List Placed) → AllByRecursion (BelongsAt 0) (map (λ l. l.leaf) placed) → count_by (λ (l : Placed). holds l.area p) placed ≡ by_records p placed + by_holes p placed
two_kinds p [] all = refl
two_kinds p (x ∷ rest) all =
    let one = one_kind p x.leaf x.area all.0 in
    let more = two_kinds p rest all.1 in
    let records = records_behind p x rest in
    let holes = holes_behind p x rest in
    let whole = sum_by-cons (λ (l : Placed). cond (holds l.area p) 1 0) x rest in
    omega (arith, one, more, records, holes, whole)

-- those of a page above it have no records
no_records : (level : ℕ) (p : List ℕ) (leaf : Leaf) (area : Area) → level ≢ 0 → BelongsAt level leaf → by_records p (record { leaf = leaf; area = area } ∷ []) ≡ 0
no_records level p (Records records) area above on = absurd (above on)
no_records level p (Child page) area above on = refl
no_records level p (Sibling page) area above on = refl

pub none_above : (level : ℕ) (p : List ℕ) (placed : List Placed) → level ≢ 0 → AllByRecursion (BelongsAt level) (map (λ l. l.leaf) placed) → by_records p placed ≡ 0
none_above level p [] above all = refl
none_above level p (x ∷ rest) above all =
    let one = no_records level p x.leaf x.area above all.0 in
    let more = none_above level p rest above all.1 in
    let records = records_behind p x rest in
    omega (arith, one, more, records)

-- no hole holds the point exactly where none of them counts
areas_of_one : (leaf : Leaf) (area : Area) → IsArea area → AllByRecursion (λ (s : ℕ × Area). IsArea s.1) (siblings (record { leaf = leaf; area = area } ∷ []))
areas_of_one (Records records) area box = tt
areas_of_one (Child page) area box = tt
areas_of_one (Sibling page) area box = (box, tt)

pub hole_areas : (placed : List Placed) → AllByRecursion (λ (l : Placed). IsArea l.area) placed → AllByRecursion (λ (s : ℕ × Area). IsArea s.1) (siblings placed)
hole_areas [] all = tt
hole_areas (x ∷ rest) all =
    subst (AllByRecursion (λ (s : ℕ × Area). IsArea s.1)) (sym (siblings-append (x ∷ []) rest))
    (whole (λ (s : ℕ × Area). IsArea s.1) (siblings (x ∷ [])) (siblings rest) (areas_of_one x.leaf x.area all.0) (hole_areas rest all.1))

abbrev pub HoldsNot : List ℕ → ℕ × Area → Type 0
HoldsNot p s = ¬ (Holds s.1 p)

pub none_counts : (p : List ℕ) (holes : List (ℕ × Area)) → AllByRecursion (λ (s : ℕ × Area). IsArea s.1) holes → AllByRecursion (HoldsNot p) holes → count_by (λ (s : ℕ × Area). holds s.1 p) holes ≡ 0
none_counts p [] boxes none = refl
none_counts p (s ∷ rest) boxes none =
    let more = none_counts p rest boxes.1 none.1 in
    let whole = sum_by-cons (λ (s : ℕ × Area). cond (holds s.1 p) 1 0) s rest in
    elim (holds s.1 p) as (λ b. holds s.1 p ≡ b → count_by (λ (s : ℕ × Area). holds s.1 p) (s ∷ rest) ≡ 0) [
      | true ↦ λ test. absurd (none.0 (Holds-from_test s.1 p test))
      | false ↦ λ test. whole ∙ ap (λ b. cond b 1 0 + count_by (λ (s : ℕ × Area). holds s.1 p) rest) test ∙ omega (arith, more)
    ] refl

pub none_holds : (p : List ℕ) (holes : List (ℕ × Area)) → AllByRecursion (λ (s : ℕ × Area). IsArea s.1) holes → count_by (λ (s : ℕ × Area). holds s.1 p) holes ≡ 0 → AllByRecursion (HoldsNot p) holes
none_holds p [] boxes none = tt
none_holds p (s ∷ rest) boxes none =
    let whole = sum_by-cons (λ (s : ℕ × Area). cond (holds s.1 p) 1 0) s rest in (
      λ held.
          let test = test-from_Holds s.1 p boxes.0 held in
          let one : one_if (holds s.1 p) ≡ 1 = ap one_if test in
          absurd (omega (arith, whole, none, one)),
      none_holds p rest boxes.1 (omega (arith, whole, none)),
    )
