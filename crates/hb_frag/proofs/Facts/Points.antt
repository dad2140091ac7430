-- The leaf at a point, and the way to it.
use Rattle.std.proofs.Common.{◌≡◌, ℕ, ◌≤◌, inl, inr, List, ◌++◌, length, get_or, Some, None, refl, sym, ◌∙◌, Option, ap}
use Rattle.std.proofs.lemmas.Bool.{cases_lt}
use Rattle.hb_space.specs.Boxes.{Area, IsArea, Holds, side_below, side_from, holds}
use Rattle.hb_space.proofs.Facts.Boxes.{Holds-side_below, Holds-side_from, test-from_Holds}
use Rattle.hb_frag.specs.declared.leaves.Leaf.{Leaf}
use Rattle.hb_frag.specs.declared.paths.Side.{Side}
use Rattle.hb_frag.specs.Trees.{Tree, Tip, Cut}
use Rattle.hb_frag.specs.Leaves.{Placed, IsWellCut, first_at, leaves_of, with_leaf_at}
use Rattle.hb_frag.specs.Paths.{part_at, with_part, way_to}
use Rattle.hb_frag.specs.Laws.{LeadsTo}
use Rattle.hb_frag.proofs.Facts.Sides.{failed_test, IsArea-side_below, IsArea-side_from, same-side_from, not_from, not_below, outside_below, outside_from, is_below, isnt_below}
use Rattle.std.proofs.lemmas.List.Folds.{find-append}
use Rattle.std.specs.Option.{option_or}

-- the first of two lists' leaves at a point
pub first_in_front : (p : List ℕ) (xs ys : List Placed) (w : Placed) → first_at p xs ≡ Some w → first_at p (xs ++ ys) ≡ Some w
first_in_front p xs ys w h = find-append (λ (l : Placed). holds l.area p) xs ys ∙ ap (λ (o : Option Placed). option_or o (first_at p ys)) h

pub first_behind : (p : List ℕ) (xs ys : List Placed) → first_at p xs ≡ None → first_at p (xs ++ ys) ≡ first_at p ys
first_behind p xs ys h = find-append (λ (l : Placed). holds l.area p) xs ys ∙ ap (λ (o : Option Placed). option_or o (first_at p ys)) h

-- a box that doesn't hold the point has no leaf there
pub none_outside : (t : Tree) (area : Area) (p : List ℕ) → IsArea area → IsWellCut t area → length p ≡ length area.lo → (Holds area p → ⊥) → first_at p (leaves_of t area) ≡ None
none_outside (Tip leaf) area p h cut e outside = rw (failed_test area p outside)
none_outside (Cut axis value left right) area p h cut e outside =
    let below = none_outside left (side_below area axis value) p (IsArea-side_below area axis value h cut.0) cut.1 e (outside_below area axis value p h cut.0 outside) in
    let from = none_outside right (side_from area axis value) p (IsArea-side_from area axis value h cut.0) cut.2 (e ∙ sym (same-side_from area axis value)) (outside_from area axis value p cut.0 outside) in
    first_behind p (leaves_of left (side_below area axis value)) (leaves_of right (side_from area axis value)) below ∙ from

-- and no leaf that would change
pub kept_outside : (t : Tree) (area : Area) (p : List ℕ) (change : Leaf → Leaf) → IsArea area → IsWellCut t area → length p ≡ length area.lo → (Holds area p → ⊥) → with_leaf_at p change t area ≡ t
kept_outside (Tip leaf) area p change h cut e outside = rw (failed_test area p outside)
kept_outside (Cut axis value left right) area p change h cut e outside =
    let below = kept_outside left (side_below area axis value) p change (IsArea-side_below area axis value h cut.0) cut.1 e (outside_below area axis value p h cut.0 outside) in
    let from = kept_outside right (side_from area axis value) p change (IsArea-side_from area axis value h cut.0) cut.2 (e ∙ sym (same-side_from area axis value)) (outside_from area axis value p cut.0 outside) in
    cc

-- a step of the search for a leaf
pub going_left : (axis value : ℕ) (left right : Tree) (area : Area) (p : List ℕ) (w : Placed) → first_at p (leaves_of left (side_below area axis value)) ≡ Some w → first_at p (leaves_of (Cut axis value left right) area) ≡ Some w
going_left axis value left right area p w h = first_in_front p (leaves_of left (side_below area axis value)) (leaves_of right (side_from area axis value)) w h

pub going_right : (axis value : ℕ) (left right : Tree) (area : Area) (p : List ℕ) → IsArea area → IsWellCut (Cut axis value left right) area → length p ≡ length area.lo → value ≤ get_or p axis 0 → first_at p (leaves_of (Cut axis value left right) area) ≡ first_at p (leaves_of right (side_from area axis value))
going_right axis value left right area p h cut e from =
    first_behind p (leaves_of left (side_below area axis value)) (leaves_of right (side_from area axis value)) (none_outside left (side_below area axis value) p (IsArea-side_below area axis value h cut.0) cut.1 e (not_below area axis value p h cut.0 from))

-- where the search ends
pub way_ends : (t : Tree) (area : Area) (p : List ℕ) → IsArea area → IsWellCut t area → Holds area p → (w : Placed) × LeadsTo p t area w
way_ends (Tip leaf) area p h cut held =
    let e = test-from_Holds area p h held in
    (record { leaf = leaf; area = area }, record { first = rw e; part = refl; held = held; changed = λ change. rw e })
way_ends (Cut axis value left right) area p h cut held =
    elim (cases_lt (get_or p axis 0) value) [
      | inl l ↦
          let w = way_ends left (side_below area axis value) p (IsArea-side_below area axis value h cut.0) cut.1 ((Holds-side_below area axis value p h cut.0).1 (held, l)) in
          let same = kept_outside right (side_from area axis value) p in (
            w.0,
            record {
              first = going_left axis value left right area p w.0 w.1.first;
              part = rw (is_below _ _ l) w.1.part;
              held = w.1.held;
              changed = λ change.
                  let here = w.1.changed change in
                  let there = same change (IsArea-side_from area axis value h cut.0) cut.2 (held.same ∙ sym (same-side_from area axis value)) (not_from area axis value p cut.0 l) in
                  rw (is_below _ _ l) (cc (here, there));
            },
          )
      | inr l ↦
          let w = way_ends right (side_from area axis value) p (IsArea-side_from area axis value h cut.0) cut.2 ((Holds-side_from area axis value p cut.0).1 (held, l)) in
          let same = kept_outside left (side_below area axis value) p in (
            w.0,
            record {
              first = going_right axis value left right area p h cut held.same l ∙ w.1.first;
              part = rw (isnt_below _ _ l) w.1.part;
              held = w.1.held;
              changed = λ change.
                  let here = w.1.changed change in
                  let there = same change (IsArea-side_below area axis value h cut.0) cut.1 held.same (not_below area axis value p h cut.0 l) in
                  rw (isnt_below _ _ l) (cc (here, there));
            },
          )
    ]

-- so the way leads to the leaf at the point
pub way_leads : (t : Tree) (area : Area) (p : List ℕ) (path : List Side) → IsArea area → IsWellCut t area → Holds area p → path ≡ way_to p t → (w : Placed) × (first_at p (leaves_of t area) ≡ Some w) × (part_at path t area ≡ Some (Tip w.leaf, w.area))
way_leads t area p path h cut held e =
    let w = way_ends t area p h cut held in
    (w.0, w.1.first, rw e w.1.part)

pub way_changes : (t : Tree) (area : Area) (p : List ℕ) (path : List Side) (leaf : Leaf) → IsArea area → IsWellCut t area → Holds area p → path ≡ way_to p t → with_part path t (Tip leaf) ≡ with_leaf_at p (λ _. leaf) t area
way_changes t area p path leaf h cut held e =
    let w = way_ends t area p h cut held in
    rw e (w.1.changed (λ _. leaf))
