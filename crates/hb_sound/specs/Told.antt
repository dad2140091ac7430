-- The pages of a file that may be hard to read: each number from 1 to the highest page has a page, or bytes that are none.
use Rattle.std.specs.Prelude.{◌≡◌, ℕ, zero, suc, ◌<◌, ◌≤◌, ◌⊎◌, List, [], ◌∷◌, slice_get, length, take, Option, Some, None}
use Rattle.hb_frag.specs.declared.pages.Page.{Page}
use Rattle.hb_layout.specs.declared.meta.Meta.{Meta}
use Rattle.hb_ops.specs.Files.{FileState}

-- the item of a number of a list that is counted from 1
abbrev pub item_at : {A : Type 0} → List A → ℕ → Option A
item_at list zero = None
item_at list (suc place) = slice_get list place

-- what is read under a number is what is told of it, where anything is told
abbrev pub GivesPage : Option (List (Option Page)) → ℕ → Option Page → Type 0
GivesPage None id page = Unit {0}
GivesPage (Some told) id page = (there : Option Page) → item_at told id ≡ Some there → page ≡ there

-- the pages that are there
abbrev pub shown_pages : List (Option Page) → List Page
shown_pages [] = []
shown_pages (None ∷ rest) = shown_pages rest
shown_pages (Some page ∷ rest) = page ∷ shown_pages rest

-- the file that says this of itself, with these pages
abbrev pub file_with : Meta → List Page → FileState
file_with meta list = record { meta = meta; pages = list }

-- the file of those that are there, up to the highest page
abbrev pub file_of : Meta → List (Option Page) → FileState
file_of meta told = file_with meta (shown_pages (take meta.high told))

-- S0: a number from 1 to the highest page beyond the pages that the file may have, or with bytes that are no page
abbrev pub IsHole : Meta → List (Option Page) → ℕ → Type 0
IsHole meta told id = (1 ≤ id) × (id ≤ meta.high) × ((meta.pages < id) ⊎ (item_at told id ≡ Some None))

-- no number is one
abbrev pub IsWholeFile : Meta → List (Option Page) → Type 0
IsWholeFile meta told = (id : ℕ) → ¬ (IsHole meta told id)

-- what is told speaks of each page that the file may have
abbrev pub CoversFile : Meta → List (Option Page) → Type 0
CoversFile meta told = meta.pages ≤ length told

pub record HasBoundedMeta (meta : Meta) : Type 0 where
  pub some : 1 ≤ meta.high
  pub high : meta.high ≤ meta.pages
  pub root : meta.root ≤ meta.high
  pub free : meta.free ≤ meta.high
  pub live : meta.live ≤ meta.high
