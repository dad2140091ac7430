-- A page gets a child leaf to a page to which its child gave a box.
use Rattle.std.specs.Prelude.{◌≡◌, ◌≢◌, ℕ, ◌<◌, ◌≤◌, List, Contains, Option, Some, None, length}
use Rattle.hb_space.specs.Boxes.{Area, Meets}
use Rattle.hb_layout.specs.declared.meta.Meta.{Meta}
use Rattle.hb_frag.specs.declared.leaves.Leaf.TheVariants.{Child}
use Rattle.hb_frag.specs.declared.pages.LivePage.{LivePage}
use Rattle.hb_frag.specs.declared.paths.Side.{Side}
use Rattle.hb_frag.specs.Carving.{carved}
use Rattle.hb_frag.specs.Leaves.{siblings_of, weight_of}
use Rattle.hb_frag.specs.Normal.{normal}
use Rattle.hb_frag.specs.Paths.{part_at, with_part}
use Rattle.hb_frag.specs.Trees.{Tree, Tip}
use Rattle.hb_ops.specs.Files.{FileState, live_page}
use Rattle.hb_ops.specs.Sound.{FitsFile}

-- a child leaf of this box, once a page is named over what the box has in common with another one; another part stays
abbrev pub named_within : ℕ → Area → Tree × Area → Tree
named_within inner area (Tip (Child outer), box) = carved box area outer inner
named_within inner area (other, box) = other

-- the page afterwards, without cuts whose two sides should be one leaf; where the path leads out of it, it stays
abbrev pub posted : List Side → ℕ → Area → Tree → Option (Tree × Area) → Tree
posted at inner area tree None = tree
posted at inner area tree (Some part) = normal (with_part at tree (named_within inner area part))

abbrev pub post_page : List Side → ℕ → Area → LivePage → LivePage
post_page at inner area page = record { level = page.level; area = page.area; frag = posted at inner area page.frag (part_at at page.frag page.area) }

-- the path leads to a child leaf of the page that names this one and has this box
abbrev pub IsChildAt : List Side → LivePage → ℕ → Area → Type 0
IsChildAt at page outer box = part_at at page.frag page.area ≡ Some (Tip (Child outer), box)

-- A page may be named in a well-made page above level 0, at a child leaf that names another one and whose box meets the
-- box that was given, where the page has room: it is the weight after it that is at most the capacity.
pub record FitsPost (meta : Meta) (page : LivePage) (at : List Side) (inner : ℕ) (area : Area) : Type 0 where
  pub made : FitsFile meta page
  pub above : 0 < page.level
  pub outer : ℕ
  pub box : Area
  pub leaf : IsChildAt at page outer box
  pub other : outer ≢ inner
  pub meets : Meets box area
  pub room : weight_of (post_page at inner area page).frag ≤ meta.icap

-- What a caller knows beyond the page that is read: the page that the leaf names gave exactly this box to the page that
-- is to be named.
pub record GaveAway (s : FileState) (parent : ℕ) (at : List Side) (inner : ℕ) (area : Area) : Type 0 where
  pub page : LivePage
  pub live : live_page s parent ≡ Some page
  pub outer : ℕ
  pub box : Area
  pub leaf : IsChildAt at page outer box
  pub child : LivePage
  pub named : live_page s outer ≡ Some child
  pub gave : Contains (siblings_of child) (inner, area)

-- a posting is allowed, and the path leads to this child leaf, whose box meets the one that was given
pub record PostsAt (meta : Meta) (page : LivePage) (at : List Side) (inner : ℕ) (area : Area) (outer : ℕ) (box : Area) : Type 0 where
  pub allowed : FitsPost meta page at inner area
  pub leaf : IsChildAt at page outer box
  pub meets : Meets box area
  pub attributes : length area.lo ≡ length box.lo
