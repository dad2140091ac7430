-- Which page a step asks for, and what it tests of that page before it latches it.
use Rattle.std.specs.Prelude.{ℕ, List, slice_get, Option, Some, None, IfSome, IsSomeAnd}
use Rattle.std.specs.Option.{option_and_then, option_map}
use Rattle.hb_frag.specs.declared.pages.LivePage.{LivePage}
use Rattle.hb_activity.specs.declared.wanting.Wanted.{Wanted}
use Rattle.hb_activity.specs.declared.activities.Activity.{Activity}
use Rattle.hb_activity.specs.declared.activities.Activity.TheVariants.{PosterChild, PosterPromote, PosterAgain, ConsolidatorScan, ConsolidatorTry, ConsolidatorPromote, ConsolidatorKeep, ConsolidatorDecide}
use Rattle.hb_activity.specs.Walks.{walk_point, walk_held}
use Rattle.hb_activity.specs.Wanting.{wanted_of}
use Rattle.hb_steps.specs.Machines.{Machine, live_here, modes}
pub use Rattle.hb_steps.specs.declared.asked_boxes.AskedBox.{AskedBox}
use Rattle.hb_steps.specs.declared.asked_boxes.BoxTest.TheVariants.{Exactly, Around}
pub use Rattle.hb_view.specs.Naming.{first_child_box}
use Rattle.hb_frag.specs.Leaves.{Placed, leaf_at, leaves_of, siblings_of, first_named}
use Rattle.hb_latch.specs.Tables.{IsGrantable, IsLeastInTheWay}
use Rattle.hb_space.specs.Boxes.{Area, whole_area}
use Rattle.hb_store.specs.States.{StoreState}
use Rattle.hb_view.specs.declared.leaves.LeafView.{LeafView}
use Rattle.hb_view.specs.declared.leaves.LeafView.TheVariants as views
use Rattle.hb_view.specs.Views.{leaf_view}

-- The page into which the next step of an activity looks to tell which latch it wants: the one that a walk holds, the
-- page to keep where a merge is tried, or the parent.
abbrev pub looked_page : Activity → Option ℕ
looked_page (PosterChild job parent) = Some parent
looked_page (PosterPromote job parent) = Some parent
looked_page (PosterAgain job parent) = Some parent
looked_page (ConsolidatorScan job parent child) = Some parent
looked_page (ConsolidatorTry job parent keep gone leaf) = Some keep
looked_page (ConsolidatorPromote job parent keep gone) = Some parent
looked_page (ConsolidatorKeep job parent keep gone) = Some parent
looked_page (ConsolidatorDecide job parent keep gone) = Some parent
looked_page other = walk_held other

abbrev pub looked_live : StoreState → Activity → Option LivePage
looked_live st activity = option_and_then (live_here st) (looked_page activity)

-- the latch that the next step of an actor wants
abbrev pub wanted_by : Machine → ℕ → Option Wanted
wanted_by m actor = wanted_of (m.activity actor) m.store.meta (looked_live m.store (m.activity actor))

-- another actor's latch is in the way of it, and this is the least such actor
abbrev pub IsInTheWay : Machine → ℕ → ℕ → Type 0
IsInTheWay m actor by = IsSomeAnd (wanted_by m actor) (λ wanted. IsLeastInTheWay (modes m) actor wanted.page wanted.mode by)

-- none is
abbrev pub HasWayFree : Machine → ℕ → Type 0
HasWayFree m actor = IfSome (wanted_by m actor) (λ wanted. IsGrantable (modes m) actor wanted.page wanted.mode)

-- a page of this very box is asked for, or one whose box has it within
abbrev pub this_box : Area → AskedBox
this_box area = record { area = area; test = Exactly }

abbrev pub around_box : Area → AskedBox
around_box area = record { area = area; test = Around }

-- the page that a leaf names, which was seen without its records: a sibling has the leaf's box, a child has it within its own
abbrev pub box_by_view : LeafView → Area → Option AskedBox
box_by_view views.Records area = None
box_by_view (views.Child page) area = Some (around_box area)
box_by_view (views.Sibling page) area = Some (this_box area)

abbrev pub box_by_leaf : Placed → Option AskedBox
box_by_leaf placed = box_by_view (leaf_view placed.leaf) placed.area

-- the page that a page's leaf at a point names
abbrev pub box_at : Option LivePage → Option (List ℕ) → Option AskedBox
box_at page p = option_and_then (λ page. option_and_then (λ p. option_and_then box_by_leaf (leaf_at page p)) p) page

-- the page that the leaf of a page at a place names
abbrev pub box_of_place : Option LivePage → ℕ → Option AskedBox
box_of_place page place = option_and_then (λ page. option_and_then box_by_leaf (slice_get (leaves_of page.frag page.area) place)) page

-- a child that a page names, and a page to which one gave a part of its box
abbrev pub box_of_child : Option LivePage → ℕ → Option AskedBox
box_of_child page name = option_map around_box (option_and_then (λ page. first_child_box name (leaves_of page.frag page.area)) page)

abbrev pub box_of_sibling : Option LivePage → ℕ → Option AskedBox
box_of_sibling page name = option_map this_box (option_and_then (λ page. first_named name (siblings_of page)) page)

-- the box that the root is to have
abbrev pub whole_box : ℕ → AskedBox
whole_box k = this_box (whole_area k)

-- the box that the wanted page is to have: of the root the whole space
abbrev pub asked_box : Activity → StoreState → Option AskedBox
asked_box (PosterChild job parent) st = box_at (live_here st parent) (Some job.point)
asked_box (PosterAgain job parent) st = box_at (live_here st parent) (Some job.point)
asked_box (ConsolidatorScan job parent child) st = box_of_child (live_here st parent) child
asked_box (ConsolidatorTry job parent keep gone leaf) st = box_of_place (live_here st keep) leaf
asked_box (ConsolidatorKeep job parent keep gone) st = box_of_child (live_here st parent) keep
asked_box (ConsolidatorDecide job parent keep gone) st = box_of_sibling (live_here st keep) gone
asked_box (PosterPromote job parent) st = None
asked_box (ConsolidatorPromote job parent keep gone) st = None
asked_box other st = in_walk (walk_held other)
  where
    in_walk : Option ℕ → Option AskedBox
    in_walk None = Some (whole_box st.meta.k)
    in_walk (Some held) = box_at (live_here st held) (walk_point other)
