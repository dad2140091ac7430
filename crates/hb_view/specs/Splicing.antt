-- A body put at a point of a page, or taken from it: the page that is made.
use Rattle.std.specs.Prelude.{◌≡◌, ℕ, List, Option, Some, None, AllPairs}
use Rattle.hb_space.specs.declared.records.Record.{Record}
use Rattle.hb_frag.specs.declared.pages.LivePage.{LivePage}
use Rattle.hb_frag.specs.Leaves.{WellCut}
use Rattle.hb_frag.specs.Rules.{Precedes}
use Rattle.hb_layout.specs.declared.meta.Meta.{Meta}
use Rattle.hb_ops.specs.Recording.{FitsDel, FitsPut, HasRecordsAt, del_page, joined, page_with, put_page, without}

-- the records with this body at the point, whatever they had there, or with none
abbrev pub with_body : List ℕ → Option (List ℕ) → List Record → List Record
with_body point (Some body) records = joined (record { key = point; body = body }) records
with_body point None records = without point records

-- the page with this body at the point, or with none
abbrev pub spliced : List ℕ → Option (List ℕ) → LivePage → LivePage
spliced point body page = page_with point (with_body point body) page

-- the page is well cut, and its leaf at the point has records, in the order of their points
pub record IsOrderedAt (point : List ℕ) (page : LivePage) : Type 0 where
  pub well_cut : WellCut page
  pub rising : HasRecordsAt page point (AllPairs Precedes)

-- what a put and a delete make of a page, where they are allowed, is spliced
abbrev pub PutsAreSplices : Type 0
PutsAreSplices = (meta : Meta) (page : LivePage) (rec : Record) → FitsPut meta page rec → IsOrderedAt rec.key page × (spliced rec.key (Some rec.body) page ≡ put_page rec page)

abbrev pub DeletesAreSplices : Type 0
DeletesAreSplices = (meta : Meta) (page : LivePage) (point : List ℕ) → FitsDel meta page point → IsOrderedAt point page × (spliced point None page ≡ del_page point page)
