-- What the laws of carving speak of.
use Rattle.std.specs.Prelude.{◌≡◌, ℕ, ◌⊎◌, if◌then◌else◌, List, All, Some}
use Rattle.std.specs.List.{Contains}
use Rattle.hb_space.specs.Boxes.{Area, Holds, Within, Disjoint, common_area, holds}
use Rattle.hb_frag.specs.declared.leaves.Leaf.TheVariants.{Child}
use Rattle.hb_frag.specs.Trees.{Tree, Tip}
use Rattle.hb_frag.specs.Leaves.{Placed, IsWellCut, first_at, leaves_of, weight_of}

-- the new child over exactly what the leaf's box has in common with the area, or the old one over a box apart from the area
abbrev pub IsCarvedLeaf : Area → Area → ℕ → ℕ → Placed → Type 0
IsCarvedLeaf leaf area outer inner placed = (placed ≡ record { leaf = Child inner; area = common_area leaf area }) ⊎ ((placed.leaf ≡ Child outer) × Disjoint placed.area area)

-- What a leaf's box becomes once `inner` is named over what it has in common with the area. The leaf at each
-- point names the new child where the area holds it, and the old one elsewhere.
pub record Carves (leaf area : Area) (outer inner : ℕ) (t : Tree) : Type 0 where
  pub cuts : IsWellCut t leaf
  pub leaves : All (IsCarvedLeaf leaf area outer inner) (leaves_of t leaf)
  pub new_child : Contains (leaves_of t leaf) (record { leaf = Child inner; area = common_area leaf area })
  pub points : (p : List ℕ) → Holds leaf p → (placed : Placed) × (first_at p (leaves_of t leaf) ≡ Some placed) × (placed.leaf ≡ Child (if holds area p then inner else outer))
  pub whole : weight_of t ≡ 1 → (t ≡ Tip (Child inner)) × Within leaf area
