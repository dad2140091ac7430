-- The pages of a file by their places, and how large they can be.
use Rattle.std.proofs.Common.{◌≡◌, ◌≢◌, ℕ, zero, suc, ◌+◌, ◌≤◌, List, [], ◌∷◌, slice_get, Some, refl, sym, ap, ◌∙◌, arith}
use Rattle.hb_frag.specs.declared.pages.LivePage.{LivePage}
use Rattle.hb_frag.specs.declared.pages.Page.{Page}
use Rattle.hb_frag.specs.declared.pages.Page.TheVariants.{Live, Free}
use Rattle.hb_ops.specs.Files.{FileState, if_live, live_page, page_at}
use Rattle.hb_ops.proofs.Facts.PageNumberLaws.{live_so, page_at-suc, page_at-zero}
use Rattle.hb_space.specs.Boxes.{volume}

-- a page in use has a place, and what stands there is in use
pub live_there : (s : FileState) (n : ℕ) (page : LivePage) → slice_get s.pages n ≡ Some (Live page) → live_page s (suc n) ≡ Some page
live_there s n page e = ap if_live (page_at-suc s.pages n ∙ e)

pub place_of : (s : FileState) (id : ℕ) (page : LivePage) → live_page s id ≡ Some page → (n : ℕ) × (id ≡ suc n) × (slice_get s.pages n ≡ Some (Live page))
place_of s zero page e =
    let none = page_at-zero s.pages in
    let there = live_so (page_at s.pages zero) page e in
    absurd (let no : ⊥ = cc in no)
place_of s (suc n) page e = (n, refl, sym (page_at-suc s.pages n) ∙ live_so (page_at s.pages (suc n)) page e)

-- how many points all pages in use hold together
abbrev pub total : List Page → ℕ
total [] = 0
total (Live page ∷ rest) = volume page.area + total rest
total (Free next ∷ rest) = total rest

no_larger : (pages : List Page) (n : ℕ) (page : LivePage) → slice_get pages n ≡ Some (Live page) → volume page.area ≤ total pages
no_larger [] n page e = absurd (let no : ⊥ = cc in no)
no_larger (Live x ∷ rest) zero page e = let same : x ≡ page = cc in let w = ap (λ (q : LivePage). volume q.area) same in omega (arith, w)
no_larger (Free next ∷ rest) zero page e = absurd (let no : ⊥ = cc in no)
no_larger (Live x ∷ rest) (suc n) page e = let w = no_larger rest n page e in omega (arith, w)
no_larger (Free next ∷ rest) (suc n) page e = no_larger rest n page e

pub page_no_larger : (s : FileState) (id : ℕ) (page : LivePage) → live_page s id ≡ Some page → volume page.area ≤ total s.pages
page_no_larger s id page e = let here = place_of s id page e in no_larger s.pages here.0 page here.2

-- a page stays in use with its level and its box, and so it was
pub record StaysLive (t : FileState) (id : ℕ) (old : LivePage) : Type 0 where
  pub new : LivePage
  pub live : live_page t id ≡ Some new
  pub level : new.level ≡ old.level
  pub area : new.area ≡ old.area

pub record WasLive (s : FileState) (id : ℕ) (new : LivePage) : Type 0 where
  pub old : LivePage
  pub live : live_page s id ≡ Some old
  pub level : new.level ≡ old.level
  pub area : new.area ≡ old.area

-- a page in use has not the number of one that isn't
pub not_vacant : (s : FileState) (fresh id : ℕ) (page : LivePage) → ((q : LivePage) → live_page s fresh ≡ Some q → ⊥) → live_page s id ≡ Some page → id ≢ fresh
not_vacant s fresh id page vacant live is = vacant page (ap (live_page s) (sym is) ∙ live)
