-- What a walk over a tree of bytes says of its leaves: which of them names a page first, which stands at a place, and how
-- many records the one at a point has.
use Rattle.std.proofs.Common.{◌≡◌, ℕ, ◌+◌, List, [], ◌∷◌, ◌++◌, length, slice_get, Option, Some, None, refl, sym, ap, subst, ◌∙◌, length-append, arith}
use Rattle.std.proofs.Math.Nat.{suc-add}
use Rattle.hb_space.specs.Boxes.{Area, IsArea, Holds, side_below, side_from}
use Rattle.hb_space.specs.declared.records.Record.{Record}
use Rattle.hb_frag.specs.declared.leaves.Leaf.{Leaf}
use Rattle.hb_frag.specs.declared.leaves.Leaf.TheVariants.{Records, Child, Sibling}
use Rattle.hb_frag.specs.Leaves.{IsPointer, Placed, IsWellCut, first_at, first_named, leaves_of, records_of, siblings, children}
use Rattle.hb_frag.specs.Trees.{Tree, Cut}
use Rattle.hb_frag.proofs.Facts.NamesListed.{named_behind, named_in_front, siblings-append, children-append}
use Rattle.hb_view.specs.declared.leaves.LeafView.{LeafView}
use Rattle.hb_view.specs.declared.leaves.LeafView.TheVariants as views
use Rattle.hb_view.specs.Naming.{CountsLeaf, StopsAtLeaf, named_box}
use Rattle.hb_view.specs.Roots.{tree_there, rest_there, IsCutAt}
use Rattle.hb_view.specs.Views.{LeafWithin, ShowsLeaf}

-- ---- the leaves of both sides

-- of a cut whose box becomes its sides
pub both_sides : (k : ℕ) (bytes left right : List ℕ) (axis value : ℕ) (area below above : Area) → IsCutAt k bytes axis value left → right ≡ rest_there k left → below ≡ side_below area axis value → above ≡ side_from area axis value
    → leaves_of (tree_there k bytes) area ≡ leaves_of (tree_there k left) below ++ leaves_of (tree_there k right) above
both_sides k bytes left right axis value area below above cut r eb ea =
    let l = tree_there k left in
    ap (λ (t : Tree). leaves_of t area) cut.tree
    ∙ ap (λ (b : List ℕ). leaves_of l (side_below area axis value) ++ leaves_of (tree_there k b) (side_from area axis value)) (sym r)
    ∙ ap (λ (a : Area). leaves_of l a ++ leaves_of (tree_there k right) (side_from area axis value)) (sym eb) ∙ ap (λ (a : Area). leaves_of l below ++ leaves_of (tree_there k right) a) (sym ea)

-- ---- the first that names a page

in_front : (sought : LeafView) (xs ys : List Placed) (found : Area) → named_box sought xs ≡ Some found → named_box sought (xs ++ ys) ≡ Some found
in_front views.Records xs ys found is = cc
in_front (views.Child page) xs ys found is = ap (first_named page) (children-append xs ys) ∙ named_in_front page (children xs) (children ys) found is
in_front (views.Sibling page) xs ys found is = ap (first_named page) (siblings-append xs ys) ∙ named_in_front page (siblings xs) (siblings ys) found is

behind_all : (sought : LeafView) (xs ys : List Placed) → named_box sought xs ≡ None → named_box sought (xs ++ ys) ≡ named_box sought ys
behind_all views.Records xs ys is = refl
behind_all (views.Child page) xs ys is = ap (first_named page) (children-append xs ys) ∙ named_behind page (children xs) (children ys) is
behind_all (views.Sibling page) xs ys is = ap (first_named page) (siblings-append xs ys) ∙ named_behind page (siblings xs) (siblings ys) is

-- at a cut: in the left side, and behind it
pub stops_left : (k : ℕ) (bytes left : List ℕ) (axis value : ℕ) (area below : Area) (sought : LeafView) (box : Area) → IsCutAt k bytes axis value left → below ≡ side_below area axis value
    → named_box sought (leaves_of (tree_there k left) below) ≡ Some box → named_box sought (leaves_of (tree_there k bytes) area) ≡ Some box
stops_left k bytes left axis value area below sought box cut eb found =
    ap (named_box sought) (both_sides k bytes left (rest_there k left) axis value area below (side_from area axis value) cut refl eb refl) ∙ in_front sought (leaves_of (tree_there k left) below) _ box found

pub stops_right : (k : ℕ) (bytes left right : List ℕ) (axis value : ℕ) (area below above : Area) (sought : LeafView) (box : Area) (r : Option (List ℕ)) → IsCutAt k bytes axis value left → below ≡ side_below area axis value → above ≡ side_from area axis value
    → (named_box sought (leaves_of (tree_there k left) below) ≡ None) × (right ≡ rest_there k left) → StopsAtLeaf (named_box sought (leaves_of (tree_there k right) above)) box (rest_there k right) r
    → StopsAtLeaf (named_box sought (leaves_of (tree_there k bytes) area)) box (rest_there k bytes) r
stops_right k bytes left right axis value area below above sought box r cut eb ea none there =
    let same : named_box sought (leaves_of (tree_there k bytes) area) ≡ named_box sought (leaves_of (tree_there k right) above) =
    ap (named_box sought) (both_sides k bytes left right axis value area below above cut none.1 eb ea) ∙ behind_all sought (leaves_of (tree_there k left) below) _ none.0 in
    let rest : rest_there k bytes ≡ rest_there k right = cut.rest ∙ sym (ap (rest_there k) none.1) in
    let R : List ℕ → Type 0 = λ b. StopsAtLeaf (named_box sought (leaves_of (tree_there k bytes) area)) box b r in
    let F : Option Area → Type 0 = λ o. StopsAtLeaf o box (rest_there k right) r in
    subst R (sym rest) (subst F (sym same) there)

-- ---- the one at a place

get_behind : (xs ys : List Placed) (rest : ℕ) → slice_get (xs ++ ys) (length xs + rest) ≡ slice_get ys rest
get_behind [] ys rest = let none : 0 + rest ≡ rest = omega arith in ap (slice_get ys) none
get_behind (x ∷ xs) ys rest = ap (slice_get (x ∷ xs ++ ys)) (suc-add (length xs) rest) ∙ get_behind xs ys rest

pub place_right : (k : ℕ) (bytes left right : List ℕ) (axis value : ℕ) (area below above : Area) (place behind : ℕ) (view : LeafView) (box : Area) → IsCutAt k bytes axis value left → right ≡ rest_there k left → below ≡ side_below area axis value → above ≡ side_from area axis value
    → place ≡ length (leaves_of (tree_there k left) below) + behind → ShowsLeaf (slice_get (leaves_of (tree_there k right) above) behind) view box → ShowsLeaf (slice_get (leaves_of (tree_there k bytes) area) place) view box
place_right k bytes left right axis value area below above place behind view box cut r eb ea past shows =
    let xs = leaves_of (tree_there k left) below in
    let ys = leaves_of (tree_there k right) above in
    let all = both_sides k bytes left right axis value area below above cut r eb ea in
    record {
      placed = shows.placed;
      found = ap (λ (l : List Placed). slice_get l place) all ∙ ap (slice_get (xs ++ ys)) past ∙ get_behind xs ys behind ∙ shows.found;
      leaf = shows.leaf;
      area = shows.area;
    }

pub place_past : (k : ℕ) (bytes left right : List ℕ) (axis value : ℕ) (area below above : Area) (place behind last : ℕ) → IsCutAt k bytes axis value left → right ≡ rest_there k left → below ≡ side_below area axis value → above ≡ side_from area axis value
    → place ≡ length (leaves_of (tree_there k left) below) + behind → behind ≡ length (leaves_of (tree_there k right) above) + last → place ≡ length (leaves_of (tree_there k bytes) area) + last
place_past k bytes left right axis value area below above place behind last cut r eb ea past more =
    let all = both_sides k bytes left right axis value area below above cut r eb ea in
    sums (leaves_of (tree_there k left) below) (leaves_of (tree_there k right) above) past more
    ∙ ap (λ (l : List Placed). length l + last) (sym all)
  where
    sums : (xs ys : List Placed) → place ≡ length xs + behind → behind ≡ length ys + last → place ≡ length (xs ++ ys) + last
    sums xs ys first second = omega (arith, first, second, length-append xs ys)

-- ---- how many records the one at a point has

-- what is counted in a tree, whatever its box
abbrev pub CountsWithin : Tree → List ℕ → ℕ → Type 0
CountsWithin t p count = (area : Area) → IsArea area → IsWellCut t area → Holds area p → CountsLeaf (first_at p (leaves_of t area)) count

pub counts : (t : Tree) (p : List ℕ) (records : List Record) (count : ℕ) → LeafWithin (λ leaf. leaf ≡ Records records) t p → length records ≡ count → CountsWithin t p count
counts t p records count within counted area h cut held =
    let there = within area h cut held in
    record { placed = there.0; found = there.1; counted = sym (ap (λ (leaf : Leaf). length (records_of leaf)) there.2 ∙ counted) }

pub counts_none : (t : Tree) (p : List ℕ) → LeafWithin IsPointer t p → CountsWithin t p 0
counts_none t p within area h cut held = let there = within area h cut held in record { placed = there.0; found = there.1; counted = nothing there.0.leaf there.2 }
  where
    nothing : (leaf : Leaf) → IsPointer leaf → 0 ≡ length (records_of leaf)
    nothing (Records records) h = absurd h
    nothing (Child page) h = refl
    nothing (Sibling page) h = refl

-- ---- the right side of a tree that is well cut

pub right_cut : (k : ℕ) (bytes left right : List ℕ) (axis value : ℕ) (area whole above : Area) → IsCutAt k bytes axis value left → right ≡ rest_there k left → whole ≡ area → above ≡ side_from whole axis value → IsWellCut (tree_there k bytes) area → IsWellCut (tree_there k right) above
right_cut k bytes left right axis value area whole above cut r back ea cuts =
    let parts : IsWellCut (Cut axis value (tree_there k left) (tree_there k (rest_there k left))) area = subst (λ (t : Tree). IsWellCut t area) cut.tree cuts in
    subst (IsWellCut (tree_there k right)) (sym (ea ∙ ap (λ (a : Area). side_from a axis value) back)) (subst (λ (b : List ℕ). IsWellCut (tree_there k b) (side_from area axis value)) (sym r) parts.2)
