-- Leaves looked for by the page that they name, or by their place.
use Rattle.std.specs.Prelude.{◌≡◌, ℕ, List, length, Option, Some, None}
use Rattle.hb_space.specs.Boxes.{Area}
use Rattle.hb_frag.specs.Leaves.{Placed, first_named, records_of, siblings, children}
use Rattle.hb_view.specs.declared.leaves.LeafView.{LeafView}
use Rattle.hb_view.specs.declared.leaves.LeafView.TheVariants as views

-- the box of the first child leaf from the left that names a page
abbrev pub first_child_box : ℕ → List Placed → Option Area
first_child_box name leaves = first_named name (children leaves)

-- the box of the first leaf from the left that names the page of this one, in the same way; records name none
abbrev pub named_box : LeafView → List Placed → Option Area
named_box views.Records leaves = None
named_box (views.Child page) leaves = first_child_box page leaves
named_box (views.Sibling page) leaves = first_named page (siblings leaves)

-- A walk to the first of some leaves. At one it stops, with the corners of its box. Past all of them it hands on the
-- bytes behind.
abbrev pub StopsAtLeaf : Option Area → Area → List ℕ → Option (List ℕ) → Type 0
StopsAtLeaf found box rest None = found ≡ Some box
StopsAtLeaf found box rest (Some r) = (found ≡ None) × (r ≡ rest)

-- A leaf was found, and it has so many records. One that names a page has none.
pub record CountsLeaf (at : Option Placed) (count : ℕ) : Type 0 where
  pub placed : Placed
  pub found : at ≡ Some placed
  pub counted : count ≡ length (records_of placed.leaf)
