-- How a step uses the pages in memory: the order of use, the pins and the marks that it leaves.
use Rattle.std.specs.Prelude.{◌≡◌, ◌⊎◌, ℕ, Bool, false, if◌then◌else◌, List, [], ◌∷◌, map, Option, Some, None, count_by, is_some}
use Rattle.std.specs.Option.{option_map_or}
use Rattle.hb_activity.specs.declared.wanting.Wanted.{Wanted}
use Rattle.hb_activity.specs.declared.holding.Latch.{Latch}
use Rattle.hb_latch.specs.Tables.{HeldModes}
use Rattle.hb_layout.specs.declared.meta.Meta.{Meta}
use Rattle.hb_ops.specs.declared.operations.Op.{Op}
use Rattle.hb_pool.specs.Frames.{Use, pinned, unpinned}
use Rattle.hb_pool.specs.Pools.{frame_of, in_place, put_last}
use Rattle.hb_store.specs.Calls.{numbers_changed, use_changed, use_fetched, change_here}
use Rattle.hb_store.specs.Fetching.{use_numbered}
use Rattle.hb_store.specs.Held.{IsTied}
use Rattle.hb_ops.specs.SetPages.{has_page}
use Rattle.hb_store.specs.States.{StoreState}

-- The wanted page comes and is pinned for the step, and so it is last in the order of use.
abbrev pub use_wanted : Option Wanted → List Use → List Use
use_wanted None uses = uses
use_wanted (Some wanted) uses = put_last wanted.page pinned (use_fetched wanted.page uses)

-- Where the row takes a number for a page that it makes, the head of the free chain comes then.
abbrev pub use_number : Bool → Meta → List Use → List Use
use_number takes meta uses = if takes then use_numbered meta uses else uses

-- the pages of these latches, and the page that is wanted
abbrev pub pages_of : List Latch → List ℕ
pages_of latches = map (λ (latch : Latch). latch.page) latches

abbrev pub page_wanted : Option Wanted → List ℕ
page_wanted None = []
page_wanted (Some wanted) = wanted.page ∷ []

-- pages of these numbers are pinned once less, and once more, one after the other
abbrev pub unpin_each : List ℕ → List Use → List Use
unpin_each [] uses = uses
unpin_each (id ∷ rest) uses = unpin_each rest (in_place id unpinned uses)

abbrev pub pin_each : List ℕ → List Use → List Use
pin_each [] uses = uses
pin_each (id ∷ rest) uses = pin_each rest (put_last id pinned uses)

-- An operation changes its pages, each of which is last then, one after the other.
abbrev pub use_done : Option Op → StoreState → List Use → List Use
use_done None st uses = uses
use_done (Some op) st uses = use_changed (numbers_changed st op) uses

-- whether an operation changes the page of a number
abbrev pub is_changed : Option Op → StoreState → ℕ → Bool
is_changed None st id = false
is_changed (Some op) st id = has_page id (change_here st op).pages

-- The pins of the actor go over to the pages of its latches: those that were pinned for it are so no more, and these are.
abbrev pub use_held : List ℕ → List ℕ → List Use → List Use
use_held before after uses = pin_each after (unpin_each before uses)

-- What came for a step that comes to no row: nothing; the wanted page; or the head of the free chain besides. The wanted page isn't
-- pinned for the step any more.
abbrev pub CameFor : Option Wanted → Meta → List Use → List Use → Type 0
CameFor wanted meta uses came = (came ≡ uses)
    ⊎ (came ≡ unpin_each (page_wanted wanted) (use_wanted wanted uses))
    ⊎ (came ≡ unpin_each (page_wanted wanted) (use_numbered meta (use_wanted wanted uses)))

-- how many actors have latched a page, and how many times it is pinned
abbrev pub actors : List ℕ
actors = 1 ∷ 2 ∷ 3 ∷ 4 ∷ 5 ∷ 6 ∷ 7 ∷ 8 ∷ 9 ∷ 10 ∷ 11 ∷ 12 ∷ 13 ∷ 14 ∷ 15 ∷ 16 ∷ 17 ∷ 18 ∷ 19 ∷ []

abbrev pub holders : HeldModes → ℕ → ℕ
holders modes id = count_by (λ actor. is_some (modes actor id)) actors

abbrev pub pins_of : List Use → ℕ → ℕ
pins_of uses id = option_map_or (λ (u : Use). u.pins) (frame_of uses id) 0

-- The frames are those of the pages in memory, and a page is pinned as many times as actors have latched it.
pub record FramesFit (store : StoreState) (uses : List Use) (modes : HeldModes) : Type 0 where
  pub tied : IsTied store uses
  pub pins : (id : ℕ) → pins_of uses id ≡ holders modes id
