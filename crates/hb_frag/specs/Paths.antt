-- Parts of a tree, by the path that leads to them from the root.
use Rattle.std.specs.Prelude.{◌≡◌, ℕ, ◌==◌, nat_lt, if◌then◌else◌, Bool, true, false, List, [], ◌∷◌, ◌++◌, slice_index, Option, Some, None}
use Rattle.std.specs.Option.{option_map}
use Rattle.hb_space.specs.Boxes.{Area, side_below, side_from}
use Rattle.hb_frag.specs.declared.leaves.Leaf.{Leaf}
use Rattle.hb_frag.specs.declared.leaves.Leaf.TheVariants.{Records, Child, Sibling}
use Rattle.hb_frag.specs.declared.paths.Side.{Side}
use Rattle.hb_frag.specs.declared.paths.Side.TheVariants.{Left, Right}
use Rattle.hb_frag.specs.Trees.{Tree, Tip, Cut}

-- The part that a path leads to, with its box. None where the path leads out of the tree.
abbrev pub part_at : List Side → Tree → Area → Option (Tree × Area)
part_at [] tree area = Some (tree, area)
part_at (Left ∷ path) (Cut axis value left right) area = part_at path left (side_below area axis value)
part_at (Right ∷ path) (Cut axis value left right) area = part_at path right (side_from area axis value)
part_at (side ∷ path) (Tip leaf) area = None

-- the tree with another part where the path leads
abbrev pub with_part : List Side → Tree → Tree → Tree
with_part [] tree part = part
with_part (Left ∷ path) (Cut axis value left right) part = Cut axis value (with_part path left part) right
with_part (Right ∷ path) (Cut axis value left right) part = Cut axis value left (with_part path right part)
with_part (side ∷ path) (Tip leaf) part = Tip leaf

-- the path to the leaf at a point: left where its value in the cut's attribute is below the cut's
abbrev pub way_to : List ℕ → Tree → List Side
way_to p (Tip leaf) = []
way_to p (Cut axis value left right) = if nat_lt (slice_index p axis) value then Left ∷ way_to p left else Right ∷ way_to p right

-- the path stays in the tree
abbrev pub StaysInside : List Side → Tree → Type 0
StaysInside [] tree = Unit {0}
StaysInside (Left ∷ path) (Cut axis value left right) = StaysInside path left
StaysInside (Right ∷ path) (Cut axis value left right) = StaysInside path right
StaysInside (side ∷ path) (Tip leaf) = ⊥

-- The path to the first sibling leaf from the left that names a page. None where there is none.
abbrev pub sibling_way : ℕ → Tree → Option (List Side)
sibling_way id (Tip leaf) = here leaf
  where
    here : Leaf → Option (List Side)
    here (Records records) = None
    here (Child page) = None
    here (Sibling page) = if page == id then Some [] else None
sibling_way id (Cut axis value left right) = first_way (sibling_way id left) (sibling_way id right)
  where
    first_way : Option (List Side) → Option (List Side) → Option (List Side)
    first_way (Some way) other = Some (Left ∷ way)
    first_way None other = option_map (λ way. Right ∷ way) other

-- Steps are added that lead somewhere, where some do; else none are.
abbrev pub TracesTo : Option (List Side) → List Side → List Side → Bool → Type 0
TracesTo (Some way) old new found = (found ≡ true) × (new ≡ old ++ way)
TracesTo None old new found = (found ≡ false) × (new ≡ old)
