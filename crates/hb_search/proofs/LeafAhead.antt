-- A search at a leaf of records: what it finds there is of other points than what it found before.
use Rattle.std.proofs.Common.{◌≡◌, ℕ, ◌-◌, suc, true, false, cond, List, [], ◌∷◌, ◌++◌, length, get_or, All, Some, refl, sym, ap, subst, ◌∙◌, arith}
use Rattle.std.specs.List.{Contains, slice_get}
use Rattle.std.proofs.lemmas.List.Elements.{All-contains, Contains-get_or}
use Rattle.std.proofs.lemmas.Option.{slice_get_past, none-some}
use Rattle.hb_frag.proofs.Facts.Tiles.{tiles_areas}
use Rattle.hb_frag.specs.Leaves.{Placed, WellCut, first_at, leaf_at, leaves_of}
use Rattle.hb_frag.specs.Rules.{AreInOrder, IsInOrder}
use Rattle.hb_frag.specs.declared.leaves.Leaf.TheVariants.{Records}
use Rattle.hb_frag.specs.declared.pages.LivePage.{LivePage}
use Rattle.hb_ops.proofs.Facts.Opened.{first_has}
use Rattle.hb_search.proofs.Facts.StaysApart.{stays_apart}
use Rattle.hb_search.specs.Gathering.{IsLeafBehind, boxes_then}
use Rattle.hb_search.specs.Searching.{IsGathering}
use Rattle.hb_space.proofs.Facts.Boxes.{Holds-from_test, Meets-from_point, lo_held}
use Rattle.hb_space.specs.Boxes.{Area, Holds, IsArea, holds}
use Rattle.hb_space.specs.declared.records.Record.{Record}
use Rattle.hb_frag.proofs.Facts.OrderedLeaves.{rising_differ}
use Rattle.hb_view.specs.Within.{records_within}

abbrev no_areas : List Area
no_areas = []

-- the last of a list, and those in front of it
pub last_splits : (xs : List Area) (x : Area) → slice_get xs (length xs - 1) ≡ Some x → (front : List Area) × (xs ≡ front ++ x ∷ [])
last_splits [] x is = absurd (none-some x (sym (slice_get_past no_areas (0 - 1) (omega arith)) ∙ is))
last_splits (y ∷ []) x is =
    let first : Some y ≡ Some x = ap (slice_get (y ∷ [])) (let e : 0 ≡ length (y ∷ []) - 1 = omega arith in e) ∙ is in
    let same : y ≡ x = cc in
    ([], ap (λ (z : Area). z ∷ []) same)
last_splits (y ∷ z ∷ zs) x is =
    let e : suc (length (z ∷ zs) - 1) ≡ length (y ∷ z ∷ zs) - 1 = omega arith in
    let rest = last_splits (z ∷ zs) x (ap (slice_get (y ∷ z ∷ zs)) e ∙ is) in
    (y ∷ rest.0, ap (λ (l : List Area). y ∷ l) rest.1)

-- the box of a leaf, which holds the point that it was found by
pub leaf_area : (page : LivePage) (p : List ℕ) (placed : Placed) → IsArea page.area → WellCut page → leaf_at page p ≡ Some placed → IsArea placed.area
leaf_area page p placed page_is well_cut leaf = first_has (λ l. IsArea l.area) p (leaves_of page.frag page.area) placed leaf (tiles_areas page.frag page.area page_is well_cut)

pub first_holds : (p : List ℕ) (xs : List Placed) (placed : Placed) → first_at p xs ≡ Some placed → Holds placed.area p
first_holds p [] placed e = absurd (let no : ⊥ = cc in no)
first_holds p (x ∷ xs) placed e = elim (holds x.area p) as (λ b. holds x.area p ≡ b → cond b (Some x) (first_at p xs) ≡ Some placed → Holds placed.area p) [
  | true ↦ λ test e. let same : x ≡ placed = cc in subst (λ (l : Placed). Holds l.area p) same (Holds-from_test x.area p test)
  | false ↦ λ test e. first_holds p xs placed e
] refl e

module _ (page : LivePage) (rest : List Area) (found records : List Record) (area at_hand : Area) (order : AreInOrder page) (gathering : IsGathering rest found) (is_last : slice_get rest (length rest - 1) ≡ Some at_hand) (is_area : IsArea at_hand) (leaf_is : IsArea area) (leaf : leaf_at page at_hand.lo ≡ Some (record { leaf = Records records; area = area })) (inside : Holds area at_hand.lo) where
  in_leaf : IsInOrder (record { leaf = Records records; area = area })
  in_leaf = first_has IsInOrder at_hand.lo (leaves_of page.frag page.area) (record { leaf = Records records; area = area }) leaf order

  attributes : (r : Record) → Contains records r → length r.key ≡ length at_hand.lo
  attributes r there = (All-contains (λ s. Holds area s.key) records r in_leaf.inside there).same ∙ sym inside.same

  pub keys : (seen : List Record) → seen ≡ records → All (λ r. length r.key ≡ length at_hand.lo) seen
  keys seen same = subst (All (λ r. length r.key ≡ length at_hand.lo)) (sym same) (λ k d lt. attributes (get_or records k d) (Contains-get_or records k d lt))

  pub leaf_behind : (gathered : List Record) → gathered ≡ found ++ records_within at_hand records → IsLeafBehind rest gathered area
  leaf_behind gathered taken =
      let split = last_splits rest at_hand is_last in
      let meets = Meets-from_point at_hand area at_hand.lo (lo_held at_hand is_area) inside in
      record {
        front = split.0;
        at_hand = at_hand;
        boxes = split.1;
        same = inside.same;
        meets = meets;
        stays = subst (λ (l : List Record). IsGathering (boxes_then split.0 at_hand area) l) (sym taken) (stays_apart split.0 found records at_hand area (subst (λ (l : List Area). IsGathering l found) split.1 gathering) is_area leaf_is inside.same meets
            (λ r there. All-contains (λ s. Holds area s.key) records r in_leaf.inside there) (rising_differ records in_leaf.rising));
      }
