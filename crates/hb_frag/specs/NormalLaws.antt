-- What the laws of joined leaves speak of.
use Rattle.std.specs.Prelude.{◌≡◌, ◌≤◌, ◌↔◌, ℕ, List, All, Some, flat_map}
use Rattle.std.specs.List.{Contains}
use Rattle.std.specs.List.Sorted.{IsPermutation}
use Rattle.hb_space.specs.Boxes.{Area, IsArea, Holds}
use Rattle.hb_frag.specs.declared.leaves.Leaf.{Leaf}
use Rattle.hb_frag.specs.declared.leaves.Leaf.TheVariants.{Records, Child, Sibling}
use Rattle.hb_frag.specs.Trees.{Tree}
use Rattle.hb_frag.specs.Leaves.{Placed, IsWellCut, first_at, leaves_of, leaves, records_of, siblings, weight_of, IsPointer}
use Rattle.hb_frag.specs.Rules.{BelongsAt, IsInOrder}

-- what a leaf says stands in another one: the same name, or records among which are all of its own
abbrev pub KeepsLeaf : Leaf → Leaf → Type 0
KeepsLeaf (Records records) (Records others) = All (Contains others) records
KeepsLeaf (Child page) (Child other) = page ≡ other
KeepsLeaf (Sibling page) (Sibling other) = page ≡ other
KeepsLeaf _ _ = ⊥

-- of two lists of leaves, the leaf at a point in the first says what the one in the second does
pub record KeepsPoint (p : List ℕ) (old new : List Placed) : Type 0 where
  pub before : Placed
  pub after : Placed
  pub old_leaf : first_at p old ≡ Some before
  pub new_leaf : first_at p new ≡ Some after
  pub kept : KeepsLeaf before.leaf after.leaf

-- A new tree says what the old one does. It stays well cut, gives the same boxes to siblings, keeps what stands at
-- each point, has the same records and names, weighs no more, has no leaf of another kind, and its records stay in order.
pub record SaysTheSame (old new : Tree) : Type 0 where
  pub cuts : (a : Area) → IsWellCut old a → IsWellCut new a
  pub siblings : (a : Area) → siblings (leaves_of new a) ≡ siblings (leaves_of old a)
  pub points : (a : Area) (p : List ℕ) → IsArea a → IsWellCut old a → Holds a p → KeepsPoint p (leaves_of old a) (leaves_of new a)
  pub records : IsPermutation (flat_map records_of (leaves old)) (flat_map records_of (leaves new))
  pub names : (leaf : Leaf) → IsPointer leaf → Contains (leaves new) leaf ↔ Contains (leaves old) leaf
  pub weight : weight_of new ≤ weight_of old
  pub kinds : (level : ℕ) → All (BelongsAt level) (leaves old) → All (BelongsAt level) (leaves new)
  pub order : (a : Area) → IsArea a → IsWellCut old a → All IsInOrder (leaves_of old a) → All IsInOrder (leaves_of new a)
