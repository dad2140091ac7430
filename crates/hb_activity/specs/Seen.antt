-- What a step sees of a page that it reads from its bytes: the leaf at a point, without its records.
use Rattle.std.specs.Prelude.{ℕ, ◌-◌, List, Option, Some, None, MatchOption}
use Rattle.std.specs.Option.{option_and_then, option_map}
use Rattle.hb_space.specs.Boxes.{Area}
use Rattle.hb_frag.specs.declared.pages.Page.{Page}
use Rattle.hb_frag.specs.declared.pages.LivePage.{LivePage}
use Rattle.hb_frag.specs.Leaves.{Placed, leaf_at}
use Rattle.hb_view.specs.declared.leaves.LeafView.{LeafView}
use Rattle.hb_view.specs.declared.leaves.LeafView.TheVariants.{Records, Child, Sibling}
use Rattle.hb_view.specs.Views.{IsLiveAnd, ShowsLeaf, leaf_view}

-- the page that it names in a page of the level, and its level
abbrev pub named_by : ℕ → LeafView → Option (ℕ × ℕ)
named_by level Records = None
named_by level (Child page) = Some (page, level - 1)
named_by level (Sibling page) = Some (page, level)

-- the child alone
abbrev pub child_by : ℕ → LeafView → Option (ℕ × ℕ)
child_by level (Child page) = Some (page, level - 1)
child_by level other = None

-- the page is in use, there is a point, and its leaf there is this one
abbrev pub IsAhead : Page → Option (List ℕ) → LeafView → Type 0
IsAhead page goal view = IsLiveAnd page (λ live. MatchOption goal ⊥ (λ p. (area : Area) × ShowsLeaf (leaf_at live p) view area))

-- a leaf without its records, and its box
abbrev pub leaf_seen : Placed → LeafView × Area
leaf_seen placed = (leaf_view placed.leaf, placed.area)

-- a page's leaf at a point, where there are both
abbrev pub seen_at : Option LivePage → Option (List ℕ) → Option (LeafView × Area)
seen_at page goal = option_and_then (λ page. option_and_then (λ p. option_map leaf_seen (leaf_at page p)) goal) page

-- and without its box
abbrev pub view_at : Option LivePage → Option (List ℕ) → Option LeafView
view_at page goal = option_map (λ (leaf : LeafView × Area). leaf.0) (seen_at page goal)
