-- Where the audit of a file that is opened has its pages from: what the log makes of it, then the places.
use Rattle.std.specs.Prelude.{◌≡◌, ℕ, zero, suc, ◌≤◌, List, [], ◌∷◌, Option, Some, None}
use Rattle.std.proofs.Common.{refl, ◌∙◌}
use Rattle.std.proofs.Props.{props}
use Rattle.std.specs.Ordering.{nat_cmp}
use Rattle.std.specs.BTreeMap.{BTreeMap, get}
use Rattle.hb_disk.specs.Model.{DiskModel}
use Rattle.hb_disk.specs.Calls.{OnlyReads}
use Rattle.hb_disk.proofs.Facts.RunLaws.{OnlyReads-none, OnlyReads-then}
use Rattle.hb_frag.specs.declared.pages.Page.{Page}
use Rattle.hb_frag.specs.declared.pages.Page.TheVariants.{Live, Free}
use Rattle.hb_frag.specs.Leaves.{weight_of}
use Rattle.hb_layout.specs.declared.meta.Meta.{Meta}
use Rattle.hb_layout.specs.Offsets.{file_size}
use Rattle.hb_page_codec.specs.ReadingPages.{page_of_bytes}
use Rattle.hb_space.specs.declared.form.TheConstants.{PAGE}
use Rattle.hb_store.specs.Opening.{place_bytes}

-- a page, or what is read where there is none
abbrev pub touched_or : Option Page → Option Page → Option Page
touched_or (Some page) read = Some page
touched_or None read = read

-- the page of a number: the touched one, or what the bytes in its place are read as
abbrev pub page_there : List ℕ → Meta → (ℕ → Option Page) → ℕ → Option Page
page_there bytes said touched id = touched_or (touched id) (page_of_bytes (place_bytes said id bytes))

-- the pages of so many numbers from one on
abbrev pub pages_from : (ℕ → Option Page) → ℕ → ℕ → List (Option Page)
pages_from page id zero = []
pages_from page id (suc more) = page id ∷ pages_from page (suc id) more

-- what is told of each number that the layout has a place for
abbrev pub told_pages : Option (List ℕ) → Meta → (ℕ → Option Page) → Option (List (Option Page))
told_pages None said touched = None
told_pages (Some bytes) said touched = Some (pages_from (page_there bytes said touched) 1 said.pages)

-- what a page weighs that is in use, else 0
abbrev pub page_weight : Page → ℕ
page_weight (Live page) = weight_of page.frag
page_weight (Free next) = 0

-- the disk has room for the file, and no touched page is heavier than its bytes may be
pub record IsSource (size : ℕ) (said : Meta) (touched : BTreeMap ℕ Page) : Type 0 where
  pub room : file_size said ≤ size
  pub light : (id : ℕ) (page : Page) → get nat_cmp touched id ≡ Some page → page_weight page ≤ PAGE

pub IsSource-prop : (size : ℕ) (said : Meta) (touched : BTreeMap ℕ Page) → IsProp (IsSource size said touched)
IsSource-prop size said touched = hlevel props

-- the disk has room for the file, which has a place for a page of this number
pub record HasPlaceFor (size : ℕ) (meta : Meta) (id : ℕ) : Type 0 where
  pub room : file_size meta ≤ size
  pub some : 1 ≤ id
  pub most : id ≤ meta.pages

-- Asking for pages only reads, and leaves all else as it is.
pub record AsksOnly (old new : DiskModel) (said before : Meta) (touched then : BTreeMap ℕ Page) : Type 0 where
  pub reads : OnlyReads old new
  pub said_is : before ≡ said
  pub touched_is : then ≡ touched

pub AsksOnly-none : (d : DiskModel) (said : Meta) (touched : BTreeMap ℕ Page) → AsksOnly d d said said touched touched
AsksOnly-none d said touched = record { reads = OnlyReads-none d; said_is = refl; touched_is = refl }

pub AsksOnly-then : (first then last : DiskModel) (said before after : Meta) (touched pages more : BTreeMap ℕ Page) → AsksOnly first then said before touched pages
    → AsksOnly then last before after pages more → AsksOnly first last said after touched more
AsksOnly-then first then last said before after touched pages more one two = record {
  reads = OnlyReads-then first then last one.reads two.reads;
  said_is = two.said_is ∙ one.said_is;
  touched_is = two.touched_is ∙ one.touched_is;
}
