-- The child leaves of a page with their boxes, and what is known of a page below one of them.
use Rattle.std.specs.Prelude.{◌≡◌, ℕ, ◌+◌, List, Contains}
use Rattle.hb_space.specs.Boxes.{Area, Holds, IsArea, Within}
use Rattle.hb_frag.specs.declared.leaves.Leaf.TheVariants.{Child}
use Rattle.hb_frag.specs.declared.pages.LivePage.{LivePage}
use Rattle.hb_frag.specs.Leaves.{Placed, leaves, leaves_of, siblings, siblings_of, children}
use Rattle.hb_layout.specs.Limits.{IsLayout}
use Rattle.hb_layout.specs.declared.meta.Meta.{Meta}
use Rattle.hb_ops.specs.Owing.{LacksRoom}
use Rattle.hb_ops.specs.Settled.{HasChild}
use Rattle.hb_ops.specs.Sound.{FitsFile}
use Rattle.hb_tidy.specs.declared.listing.Names.{Names}
use Rattle.hb_tidy.specs.declared.listing.Names.TheVariants.{Children, Siblings}
use Rattle.hb_tidy.specs.declared.stops.TidyStop.{TidyStop}
use Rattle.hb_tidy.specs.declared.stops.TidyStop.TheVariants as stops

-- the boxes of a page's child leaves
abbrev pub placed_children : LivePage → List (ℕ × Area)
placed_children page = children (leaves_of page.frag page.area)

-- those of the leaves that name children, or siblings
abbrev pub named_leaves : Names → List Placed → List (ℕ × Area)
named_leaves Children ls = children ls
named_leaves Siblings ls = siblings ls

-- A child leaf of a page that is well made has this box.
pub record HasPlacedChild (meta : Meta) (parent : LivePage) (name : ℕ) (area : Area) : Type 0 where
  pub made : FitsFile meta parent
  pub whole : IsArea parent.area
  pub leaf : HasChild parent name area

-- A page stands below a child leaf of a parent that has this box: it is one level down, and has the box within its own. Both pages
-- are well made.
pub record StandsBelow (meta : Meta) (parent : LivePage) (name : ℕ) (area : Area) (child : LivePage) : Type 0 where
  pub above : HasPlacedChild meta parent name area
  pub below_made : FitsFile meta child
  pub below_area : IsArea child.area
  pub level : child.level + 1 ≡ parent.level
  pub within : Within area child.area

-- A page stands below a leaf of this box, and gave this other box away.
pub record HasGiven (meta : Meta) (parent : LivePage) (area : Area) (child : LivePage) (given : Area) : Type 0 where
  pub name : ℕ
  pub stands : StandsBelow meta parent name area child
  pub inner : ℕ
  pub listed : Contains (siblings_of child) (inner, given)

-- It gave away a box with this point, which the leaf has.
pub record OwesAt (meta : Meta) (parent : LivePage) (area : Area) (child : LivePage) (point : List ℕ) : Type 0 where
  pub name : ℕ
  pub stands : StandsBelow meta parent name area child
  pub held : Holds area point
  pub inner : ℕ × Area
  pub given : Contains (siblings_of child) inner
  pub inside : Holds inner.1 point

-- A page stands below a leaf of this box, and another one is well made, whose number a child leaf of the parent names.
pub record IsChildPair (meta : Meta) (parent : LivePage) (name : ℕ) (area : Area) (keep : LivePage) (gone : ℕ) (going : LivePage) : Type 0 where
  pub layout : IsLayout meta
  pub stands : StandsBelow meta parent name area keep
  pub named : Contains (leaves parent.frag) (Child gone)
  pub made : FitsFile meta going

-- three pages of one file, each well made
pub record MayPlanMerge (meta : Meta) (parent keep going : LivePage) : Type 0 where
  pub layout : IsLayout meta
  pub parent_made : FitsFile meta parent
  pub keep_made : FitsFile meta keep
  pub going_made : FitsFile meta going

-- No job was made for a posting that is owed: no page is free, and the parent has no room for it; or memory was refused.
abbrev pub IsNotOwed : Meta → LivePage → LivePage → TidyStop → Type 0
IsNotOwed meta parent child stops.Full = (meta.live ≡ meta.pages) × (point : List ℕ) × LacksRoom parent child point meta.icap
IsNotOwed meta parent child stops.NoMemory = Unit {0}
IsNotOwed meta parent child other = ⊥
