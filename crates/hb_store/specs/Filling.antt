-- What setting changed pages does to the frames, and that there is a place for each.
use Rattle.std.specs.Prelude.{◌≡◌, ◌≢◌, ◌⊎◌, ℕ, ◌<◌, true, false, IsTrue, List, [], ◌∷◌, map, All, Option, Some, None, IsSomeAnd}
use Rattle.std.specs.Option.{option_map}
use Rattle.hb_frag.specs.declared.pages.Page.{Page}
use Rattle.hb_frag.specs.declared.pages.Page.TheVariants.{Live, Free}
use Rattle.hb_frag.specs.Grammar.{HasSpelling, SpellsPage}
use Rattle.hb_pool.specs.Frames.{Frame, Use, must_stay, use_of}
use Rattle.hb_pool.specs.Pools.{IsPool, frame_of, places}
use Rattle.hb_view.specs.Spelled.{page_spelled}
use Rattle.hb_view.specs.Splicing.{IsOrderedAt, spliced}
use Rattle.hb_store.specs.Calls.{StaysHere, use_changed}
use Rattle.hb_ops.specs.SetPages.{has_page, set_pages}

-- the page that the frame of a number has
abbrev pub in_frame : List (Frame (List ℕ)) → ℕ → Option Page
in_frame pool id = option_map (λ (f : Frame (List ℕ)). page_spelled f.bytes) (frame_of pool id)

-- a page's frame stays as it is, or leaves, where it may
abbrev pub MayGoOut : Option (Frame (List ℕ)) → Option (Frame (List ℕ)) → Type 0
MayGoOut old new = (new ≡ old) ⊎ ((new ≡ None) × IsSomeAnd old (λ (f : Frame (List ℕ)). must_stay f ≡ false))

-- a frame has this page, and is dirty
abbrev pub HasNew : Option (Frame (List ℕ)) → Page → Type 0
HasNew frame page = IsSomeAnd frame (λ (f : Frame (List ℕ)). SpellsPage f.bytes page × (f.dirty ≡ true))

-- It is a page in use, in order at the point, and what it becomes with this body there, or none, can be written.
abbrev pub HasSpliceable : Option Page → List ℕ → Option (List ℕ) → Type 0
HasSpliceable (Some (Live page)) point body = IsOrderedAt point page × HasSpelling (Live (spliced point body page))
HasSpliceable (Some (Free next)) point body = ⊥
HasSpliceable None point body = ⊥

-- A page was put under its number.
pub record PutsInto (id : ℕ) (page : Page) (old new : List (Frame (List ℕ))) : Type 0 where
  pub there : HasNew (frame_of new id) page
  pub others : (q : ℕ) → q ≢ id → MayGoOut (frame_of old q) (frame_of new q)
  pub uses : map use_of new ≡ use_changed (id ∷ []) (map use_of old)
  pub pool : IsPool new

abbrev pub numbers_of : List (ℕ × Page) → List ℕ
numbers_of pages = map (λ (c : ℕ × Page). c.0) pages

-- Pages were put under their numbers, one after the other; of each number the last one is there.
pub record PutsAll (pages : List (ℕ × Page)) (old new : List (Frame (List ℕ))) : Type 0 where
  pub made : (q : ℕ) (before : ℕ → Option Page) → IsTrue (has_page q pages) → (page : Page) × (set_pages pages before q ≡ Some page) × HasNew (frame_of new q) page
  pub others : (q : ℕ) → has_page q pages ≡ false → MayGoOut (frame_of old q) (frame_of new q)
  pub uses : map use_of new ≡ use_changed (numbers_of pages) (map use_of old)
  pub pool : IsPool new

-- There is a place for the page of a number: it has a frame that stays, or it is the one page that may have none.
abbrev pub HasRoom : ℕ → List Use → ℕ → Type 0
HasRoom fresh uses id = StaysHere uses id ⊎ ((id ≡ fresh) × (frame_of uses fresh ≡ None → 0 < places uses))

-- so there is for pages of these numbers
abbrev pub HaveRoom : List Use → List (ℕ × Page) → Type 0
HaveRoom uses pages = (fresh : ℕ) × All (λ (c : ℕ × Page). HasRoom fresh uses c.0) pages
