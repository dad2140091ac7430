-- A page takes another one's place in the child leaves that name it.
use Rattle.std.specs.Prelude.{◌≡◌, ◌↔◌, ℕ, ◌==◌, if◌then◌else◌, map}
use Rattle.hb_space.specs.Boxes.{Area}
use Rattle.hb_frag.specs.declared.leaves.Leaf.{Leaf}
use Rattle.hb_frag.specs.declared.leaves.Leaf.TheVariants.{Records, Child, Sibling}
use Rattle.hb_frag.specs.Trees.{Tree, Tip, Cut}
use Rattle.hb_frag.specs.Leaves.{Placed, IsWellCut, leaves_of, siblings, weight_of}

-- a child leaf to the old page names the new one
abbrev pub renamed_leaf : ℕ → ℕ → Leaf → Leaf
renamed_leaf old new (Records records) = Records records
renamed_leaf old new (Child page) = Child (if page == old then new else page)
renamed_leaf old new (Sibling page) = Sibling page

abbrev pub renamed_place : ℕ → ℕ → Placed → Placed
renamed_place old new placed = record { leaf = renamed_leaf old new placed.leaf; area = placed.area }

abbrev pub renamed : ℕ → ℕ → Tree → Tree
renamed old new (Tip leaf) = Tip (renamed_leaf old new leaf)
renamed old new (Cut axis value left right) = Cut axis value (renamed old new left) (renamed old new right)

-- The tree is cut as before, each leaf stands in its box with its new name, the sibling leaves are the same, and it weighs the same.
pub record Renames (old new : ℕ) (t : Tree) : Type 0 where
  pub cuts : (a : Area) → IsWellCut (renamed old new t) a ↔ IsWellCut t a
  pub leaves : (a : Area) → leaves_of (renamed old new t) a ≡ map (renamed_place old new) (leaves_of t a)
  pub siblings : (a : Area) → siblings (leaves_of (renamed old new t) a) ≡ siblings (leaves_of t a)
  pub weight : weight_of (renamed old new t) ≡ weight_of t
