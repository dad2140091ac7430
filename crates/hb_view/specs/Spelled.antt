-- The page that a view's bytes spell.
use Rattle.std.specs.Prelude.{ℕ, List, Option, Some, None}
use Rattle.hb_frag.specs.declared.pages.Page.{Page}
use Rattle.hb_frag.specs.declared.pages.Page.TheVariants.{Free}
use Rattle.hb_page_codec.specs.ReadingPages.{page_of_bytes}

abbrev pub page_or : Option Page → Page
page_or (Some page) = page
page_or None = Free 0

-- the page that the bytes spell, where they spell one
abbrev pub page_spelled : List ℕ → Page
page_spelled bytes = page_or (page_of_bytes bytes)
