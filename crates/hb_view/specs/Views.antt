-- What a view is seen as, and what it tells of a leaf.
use Rattle.std.specs.Prelude.{◌≡◌, ℕ, ◌≤◌, ◌⊎◌, List, [], ◌∷◌, length, Option, Some, None}
use Rattle.hb_space.specs.Boxes.{Area, IsArea, Holds}
use Rattle.hb_space.specs.declared.form.TheConstants.{PAGE}
use Rattle.hb_space.specs.declared.records.Record.{Record}
use Rattle.hb_frag.specs.declared.leaves.Leaf.{Leaf}
use Rattle.hb_frag.specs.declared.leaves.Leaf.TheVariants as leaves
use Rattle.hb_frag.specs.declared.pages.LivePage.{LivePage}
use Rattle.hb_frag.specs.declared.pages.Page.{Page}
use Rattle.hb_frag.specs.declared.pages.Page.TheVariants.{Live, Free}
use Rattle.hb_frag.specs.Trees.{Tree}
use Rattle.hb_frag.specs.Leaves.{Placed, IsWellCut, first_at, leaves_of, records_of, weight_of}
use Rattle.hb_view.specs.Seen.{tree_seen, area_seen}
use Rattle.hb_view.specs.declared.leaves.LeafView.{LeafView}
use Rattle.hb_view.specs.declared.leaves.LeafView.TheVariants as views
use Rattle.hb_view.specs.declared.trees.Inside.{Inside}

-- the page is in use; a page that isn't is free
abbrev pub IsLive : Page → Type 0
IsLive (Live page) = Unit {0}
IsLive (Free next) = ⊥

-- it is in use, and this holds of it
abbrev pub IsLiveAnd : Page → (LivePage → Type 0) → Type 0
IsLiveAnd (Live page) P = P page
IsLiveAnd (Free next) P = ⊥

-- a page in use has this box and this tree
pub record HasInside (page : LivePage) (inside : Inside) : Type 0 where
  pub attributes : inside.tree.k.number ≡ length page.area.lo
  pub is_area : IsArea page.area
  pub area : area_seen inside ≡ page.area
  pub tree : tree_seen inside.tree ≡ page.frag
  pub light : weight_of page.frag ≤ PAGE

-- a leaf without its records
abbrev pub leaf_view : Leaf → LeafView
leaf_view (leaves.Records records) = views.Records
leaf_view (leaves.Child page) = views.Child page
leaf_view (leaves.Sibling page) = views.Sibling page

-- it is so of the leaf at the point in a tree, whatever the tree's box
abbrev pub LeafWithin : (Leaf → Type 0) → Tree → List ℕ → Type 0
LeafWithin P t p = (area : Area) → IsArea area → IsWellCut t area → Holds area p → (l : Placed) × (first_at p (leaves_of t area) ≡ Some l) × P l.leaf

-- A leaf was found, and this is what it is and its box.
pub record ShowsLeaf (at : Option Placed) (view : LeafView) (box : Area) : Type 0 where
  pub placed : Placed
  pub found : at ≡ Some placed
  pub leaf : view ≡ leaf_view placed.leaf
  pub area : box ≡ placed.area

-- the body of the first of these records that has the point; None where none has it
abbrev pub FindsAmong : List ℕ → List Record → Option (List ℕ) → Type 0
FindsAmong p [] body = body ≡ None
FindsAmong p (r ∷ rest) body = ((r.key ≡ p) × (body ≡ Some r.body)) ⊎ ((¬ (r.key ≡ p)) × FindsAmong p rest body)

-- A leaf was found, and this is the body of its record of the point. One that names a page has no records.
pub record TellsBody (p : List ℕ) (at : Option Placed) (body : Option (List ℕ)) : Type 0 where
  pub placed : Placed
  pub found : at ≡ Some placed
  pub among : FindsAmong p (records_of placed.leaf) body
