-- The leaves of a page and their boxes, as lists from the left.
use Rattle.std.specs.Prelude.{ℕ, ◌==◌, max, not, if◌then◌else◌, List, [], ◌∷◌, ◌++◌, length, map, filter, sum, All, Option, Some, None}
use Rattle.std.specs.List.{list_any, find, fold, flat_map}
use Rattle.hb_space.specs.Boxes.{Area, Holds, Meets, Within, Cuts, holds, side_below, side_from}
use Rattle.hb_space.specs.declared.records.Record.{Record}
use Rattle.hb_frag.specs.declared.leaves.Leaf.{Leaf}
use Rattle.hb_frag.specs.declared.leaves.Leaf.TheVariants.{Records, Child, Sibling}
use Rattle.hb_frag.specs.declared.pages.LivePage.{LivePage}
use Rattle.hb_frag.specs.Trees.{Tree, Tip, Cut}

-- a leaf and its box
pub record Placed : Type 0 where
  pub leaf : Leaf
  pub area : Area

-- a leaf that names a page
abbrev pub IsPointer : Leaf → Type 0
IsPointer (Records records) = ⊥
IsPointer (Child page) = Unit {0}
IsPointer (Sibling page) = Unit {0}

-- The leaves of a tree in a box: a leaf has the box, and each side of a cut has its side of the box.
abbrev pub leaves_of : Tree → Area → List Placed
leaves_of (Tip leaf) area = record { leaf = leaf; area = area } ∷ []
leaves_of (Cut axis value left right) area = leaves_of left (side_below area axis value) ++ leaves_of right (side_from area axis value)

-- the leaves without their boxes
abbrev pub leaves : Tree → List Leaf
leaves (Tip leaf) = leaf ∷ []
leaves (Cut axis value left right) = leaves left ++ leaves right

-- every cut cuts its box
abbrev pub IsWellCut : Tree → Area → Type 0
IsWellCut (Tip leaf) area = Unit {0}
IsWellCut (Cut axis value left right) area = Cuts area axis value × IsWellCut left (side_below area axis value) × IsWellCut right (side_from area axis value)

-- the first of these leaves whose box holds the point
abbrev pub first_at : List ℕ → List Placed → Option Placed
first_at p leaves = find (λ placed. holds placed.area p) leaves

-- the leaf at a point, with its box
abbrev pub leaf_at : LivePage → List ℕ → Option Placed
leaf_at page p = first_at p (leaves_of page.frag page.area)

-- the tree with a change made to the leaf whose box holds the point
abbrev pub with_leaf_at : List ℕ → (Leaf → Leaf) → Tree → Area → Tree
with_leaf_at p change (Tip leaf) area = Tip (if holds area p then change leaf else leaf)
with_leaf_at p change (Cut axis value left right) area = Cut axis value (with_leaf_at p change left (side_below area axis value)) (with_leaf_at p change right (side_from area axis value))

-- What a leaf weighs: its records, at least 1; a leaf that names a page weighs 1.
abbrev pub leaf_weight : Leaf → ℕ
leaf_weight (Records records) = max 1 (length records)
leaf_weight (Child page) = 1
leaf_weight (Sibling page) = 1

abbrev pub weight_of : Tree → ℕ
weight_of tree = sum (map leaf_weight (leaves tree))

-- the records of a leaf; one that names a page has none
abbrev pub records_of : Leaf → List Record
records_of (Records records) = records
records_of (Child page) = []
records_of (Sibling page) = []

-- the pages that child leaves name, from the left
abbrev pub child_names : List Leaf → List ℕ
child_names [] = []
child_names (Records records ∷ rest) = child_names rest
child_names (Child page ∷ rest) = page ∷ child_names rest
child_names (Sibling page ∷ rest) = child_names rest

-- each name once, where it stands first
abbrev pub firsts : List ℕ → List ℕ
firsts [] = []
firsts (name ∷ rest) = name ∷ filter (λ other. not (other == name)) (firsts rest)

-- a list of names with one more at the end, where it isn't there yet
abbrev pub with_name : List ℕ → ℕ → List ℕ
with_name seen name = if list_any (λ other. other == name) seen then seen else seen ++ name ∷ []

abbrev pub with_names : List ℕ → List ℕ → List ℕ
with_names seen names = fold with_name seen names

-- the boxes of the sibling leaves, with the page that each names
abbrev pub siblings : List Placed → List (ℕ × Area)
siblings leaves = flat_map (λ placed. sibling_of placed.leaf placed.area) leaves
  where
    sibling_of : Leaf → Area → List (ℕ × Area)
    sibling_of (Sibling page) area = (page, area) ∷ []
    sibling_of other area = []

abbrev pub siblings_of : LivePage → List (ℕ × Area)
siblings_of page = siblings (leaves_of page.frag page.area)

-- the boxes of the child leaves, with the page that each names
abbrev pub children : List Placed → List (ℕ × Area)
children leaves = flat_map (λ placed. child_of placed.leaf placed.area) leaves
  where
    child_of : Leaf → Area → List (ℕ × Area)
    child_of (Child page) area = (page, area) ∷ []
    child_of other area = []

-- the first of such boxes that has the name
abbrev pub first_named : ℕ → List (ℕ × Area) → Option Area
first_named name [] = None
first_named name (s ∷ rest) = if s.0 == name then Some s.1 else first_named name rest

-- A page directly holds a point: its box does, and no sibling leaf's box does.
pub record DirectlyHolds (page : LivePage) (p : List ℕ) : Type 0 where
  pub inside : Holds page.area p
  pub not_given : All (λ s. ¬ (Holds s.1 p)) (siblings_of page)

-- A page directly holds a box: it lies in the page's box and meets no sibling leaf's box.
pub record DirectlyCovers (page : LivePage) (a : Area) : Type 0 where
  pub inside : Within a page.area
  pub not_given : All (λ s. ¬ (Meets s.1 a)) (siblings_of page)

-- a live page is well cut
abbrev pub WellCut : LivePage → Type 0
WellCut page = IsWellCut page.frag page.area
