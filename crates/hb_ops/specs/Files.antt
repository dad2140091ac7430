-- A file as a whole: what it says of itself, and a page for each number from 1 to the highest page.
use Rattle.std.specs.Prelude.{ℕ, ◌-◌, ◌==◌, if◌then◌else◌, List, [], ◌∷◌, map, flat_map, Option, Some, None}
use Rattle.std.specs.FinMap as finite
use Rattle.hb_space.specs.Points.{point_cmp}
use Rattle.hb_space.specs.declared.records.Record.{Record}
use Rattle.hb_frag.specs.declared.pages.LivePage.{LivePage}
use Rattle.hb_frag.specs.declared.pages.Page.{Page}
use Rattle.hb_frag.specs.declared.pages.Page.TheVariants.{Live, Free}
use Rattle.hb_frag.specs.Leaves.{leaves, records_of}
use Rattle.hb_layout.specs.declared.meta.Meta.{Meta}

-- The page of number n stands at place n - 1 of the list.
pub record FileState : Type 0 where
  pub meta : Meta
  pub pages : List Page

-- the page of a number; none for 0 and above the highest page
abbrev pub page_at : List Page → ℕ → Option Page
page_at [] id = None
page_at (page ∷ rest) id = if id == 0 then None else if id == 1 then Some page else page_at rest (id - 1)

abbrev pub page_of : FileState → ℕ → Option Page
page_of s id = page_at s.pages id

-- the same where it is in use
abbrev pub if_live : Option Page → Option LivePage
if_live (Some (Live page)) = Some page
if_live other = None

abbrev pub live_page : FileState → ℕ → Option LivePage
live_page s id = if_live (page_of s id)

-- the records of a page of level 0, from the left; another page has none
abbrev pub page_records : Page → List Record
page_records (Live page) = if page.level == 0 then flat_map records_of (leaves page.frag) else []
page_records (Free next) = []

abbrev pub file_records : FileState → List Record
file_records s = flat_map page_records s.pages

-- the contents: the body under each point that a record of the file has
abbrev pub contents_of : FileState → finite.FinMap point_cmp (List ℕ)
contents_of s = finite.from_entries (map (λ r. (r.key, r.body)) (file_records s))

-- the last of the files behind the first one
abbrev pub last_of : FileState → List FileState → FileState
last_of s [] = s
last_of s (next ∷ later) = last_of next later
