-- What is read in the place of a page.
use Rattle.std.proofs.Common.{◌≡◌, ◌⊎◌, ℕ, ◌∙◌, List, Option, Some, None, IfSome, IfOk, Result, Ok, Err, refl, ap}
use Rattle.hb_frag.specs.declared.pages.Page.{Page}
use Rattle.hb_frag.specs.Grammar.{SpellsPage}
use Rattle.hb_layout.specs.declared.meta.Meta.{Meta}
use Rattle.hb_page_codec.specs.Exact.{AreBytes, PagesAreExact}
use Rattle.hb_page_codec.specs.ReadingPages.{page_of_bytes}
use Rattle.hb_page_codec.specs.declared.errors.PageError.{PageError}
use Rattle.hb_page_codec.specs.declared.errors.PageError.TheVariants as errors
use Rattle.hb_page_codec.proofs.Facts.PageLaws.{decodes_nothing}
use Rattle.hb_store.specs.Opening.{place_bytes}

-- the page that they are read as is that of its place
pub page_read : {E : Type 0} (r : Result (Option Page) E) (told : Option (List ℕ)) (into : List ℕ) (meta : Meta) (id : ℕ) → IfOk r (λ page. page ≡ page_of_bytes into)
    → IfSome told (λ b. into ≡ place_bytes meta id b) → IfOk r (λ page. IfSome told (λ b. page ≡ page_of_bytes (place_bytes meta id b)))
page_read (Ok page) (Some b) into meta id is place = is ∙ ap page_of_bytes place
page_read (Ok page) None into meta id is place = tt
page_read (Err e) told into meta id is place = tt

-- bytes that were read as no page spell none
none_read : (exact : PagesAreExact) (bytes : List ℕ) → AreBytes bytes → ((page : Page) → SpellsPage bytes page → ⊥) → (read : Option Page) → page_of_bytes bytes ≡ read → None ≡ read
none_read exact bytes are none None is = refl
none_read exact bytes are none (Some page) is = absurd (none page ((exact bytes page are).0 is))

pub bad_read : (exact : PagesAreExact) (bytes : List ℕ) → AreBytes bytes → (e : PageError) → e ≡ errors.BadPage
    → ((page : Page) → SpellsPage bytes page → (◌≡◌ {A = Result Page PageError} (Err e) (Ok page)) ⊎ (◌≡◌ {A = Result Page PageError} (Err e) (Err errors.NoMemory))) → None ≡ page_of_bytes bytes
bad_read exact bytes are e is only = none_read exact bytes are (λ page spells. decodes_nothing e is page (only page spells)) (page_of_bytes bytes) refl
