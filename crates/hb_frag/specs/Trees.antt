-- What contracts see of a page: a k-d tree of cuts whose tips are leaves.
use Rattle.std.specs.Prelude.{ℕ, ◌+◌}
use Rattle.hb_frag.specs.declared.leaves.Leaf.{Leaf}

-- a tree: a leaf, or a plane with what lies below its value and what lies from it on
pub data Tree : Type 0 where
  Tip : Leaf → Tree
  Cut : ℕ → ℕ → Tree → Tree → Tree

-- how many cuts and leaves it has
abbrev pub tree_size : Tree → ℕ
tree_size (Tip leaf) = 1
tree_size (Cut axis value left right) = tree_size left + tree_size right + 1
