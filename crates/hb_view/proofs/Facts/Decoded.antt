-- What decoding the bytes of a view gives.
use Rattle.std.proofs.Common.{◌≡◌, ℕ, List, IsSome, Result, Ok, Err, ◌⊎◌, sym, ap}
use Rattle.hb_lemmas.proofs.Options.{some_value}
use Rattle.hb_frag.specs.declared.pages.Page.{Page}
use Rattle.hb_frag.specs.Grammar.{SpellsPage}
use Rattle.hb_page_codec.specs.Exact.{AreBytes}
use Rattle.hb_page_codec.specs.ReadingPages.{page_of_bytes}
use Rattle.hb_page_codec.specs.declared.errors.PageError.{PageError}
use Rattle.hb_page_codec.specs.declared.errors.PageError.TheVariants as errors
use Rattle.hb_page_codec.proofs.Facts.PageLaws.{page_takes, page_again, decodes_nothing}
use Rattle.hb_view.specs.Spelled.{page_or, page_spelled}

pub is_decoded : (bytes : List ℕ) (page : Page) → SpellsPage bytes page → page ≡ page_spelled bytes
is_decoded bytes page s = sym (ap page_or (page_again bytes page s))

-- bytes that spell a page are never refused as bad
pub never_bad : (bytes : List ℕ) (e : PageError) → AreBytes bytes → IsSome (page_of_bytes bytes) → e ≡ errors.BadPage
    → ((page : Page) → SpellsPage bytes page → (◌≡◌ {A = Result Page PageError} (Err e) (Ok page)) ⊎ (◌≡◌ {A = Result Page PageError} (Err e) (Err errors.NoMemory))) → ⊥
never_bad bytes e fits some bad only =
    let w = some_value (page_of_bytes bytes) some in
    decodes_nothing e bad w.0 (only w.0 (page_takes bytes w.0 fits w.1))
