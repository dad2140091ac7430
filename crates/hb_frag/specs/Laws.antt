-- What the laws of pages speak of.
use Rattle.std.specs.Prelude.{◌≡◌, ◌↔◌, ℕ, if◌then◌else◌, List, ◌++◌, Some}
use Rattle.hb_space.specs.Boxes.{Area, IsArea, Holds, holds}
use Rattle.hb_frag.specs.declared.leaves.Leaf.{Leaf}
use Rattle.hb_frag.specs.declared.paths.Side.{Side}
use Rattle.hb_frag.specs.declared.leaves.Leaf.TheVariants.{Sibling}
use Rattle.hb_frag.specs.Trees.{Tree, Tip}
use Rattle.hb_frag.specs.Leaves.{Placed, IsWellCut, first_at, first_named, leaves_of, siblings, with_leaf_at}
use Rattle.hb_frag.specs.Paths.{part_at, with_part, way_to}

-- a leaf with a change made where its box holds the point
abbrev pub changed_at : List ℕ → (Leaf → Leaf) → Placed → Placed
changed_at p change placed = record { leaf = if holds placed.area p then change placed.leaf else placed.leaf; area = placed.area }

-- The way to a point leads to this leaf: it is the one there, the way ends at it, and to change it there is to change it on the way.
pub record LeadsTo (p : List ℕ) (t : Tree) (area : Area) (w : Placed) : Type 0 where
  pub first : first_at p (leaves_of t area) ≡ Some w
  pub part : part_at (way_to p t) t area ≡ Some (Tip w.leaf, w.area)
  pub held : Holds w.area p
  pub changed : (change : Leaf → Leaf) → with_part (way_to p t) t (Tip (change w.leaf)) ≡ with_leaf_at p change t area

-- A part's leaves are a stretch of the tree's, and another part in its place changes no other leaf.
pub record IsStretch (path : List Side) (t : Tree) (area : Area) (part : Tree × Area) : Type 0 where
  pub front : List Placed
  pub behind : List Placed
  pub whole : leaves_of t area ≡ front ++ leaves_of part.0 part.1 ++ behind
  pub other : (other : Tree) → leaves_of (with_part path t other) area ≡ front ++ leaves_of other part.1 ++ behind

-- A part of a well-cut tree is well cut in its box, which holds only points of the tree's. Another part stands
-- where it stood, and the tree with it is well cut exactly where that part is, in the same box.
pub record IsPart (path : List Side) (t : Tree) (area : Area) (part : Tree × Area) : Type 0 where
  pub is_area : IsArea part.1
  pub well_cut : IsWellCut part.0 part.1
  pub inside : (p : List ℕ) → Holds part.1 p → Holds area p
  pub again : (other : Tree) → part_at path (with_part path t other) area ≡ Some (other, part.1)
  pub cuts : (other : Tree) → IsWellCut (with_part path t other) area ↔ IsWellCut other part.1

-- The path leads to a sibling leaf to this page, and its box is that of the first such leaf from the left.
pub record IsWayToSibling (id : ℕ) (t : Tree) (area : Area) (way : List Side) : Type 0 where
  pub box : Area
  pub part : part_at way t area ≡ Some (Tip (Sibling id), box)
  pub first : first_named id (siblings (leaves_of t area)) ≡ Some box
