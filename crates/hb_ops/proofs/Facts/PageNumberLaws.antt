-- The pages of a file by their numbers.
use Rattle.std.proofs.Common.{◌≡◌, ℕ, zero, suc, ◌+◌, ◌-◌, ◌<◌, ◌==◌, Bool, cond, List, [], ◌∷◌, ◌++◌, length, set, slice_get, Option, Some, None, refl, sym, ap, ◌∙◌, arith, ne_eqb, lt-ltb, le-ltb, nat_lt}
use Rattle.std.proofs.lemmas.Bool.{eq-eqb}
use Rattle.hb_frag.specs.declared.pages.LivePage.{LivePage}
use Rattle.hb_frag.specs.declared.pages.Page.{Page}
use Rattle.hb_frag.specs.declared.pages.Page.TheVariants.{Live, Free}
use Rattle.hb_ops.specs.Files.{if_live, page_at}
use Rattle.hb_ops.specs.Operations.{with_page}

-- no page has the number 0
pub page_at-zero : (pages : List Page) → page_at pages 0 ≡ None
page_at-zero [] = refl
page_at-zero (page ∷ rest) = refl

-- the page of another number stands one place before it
pub page_at-suc : (pages : List Page) (n : ℕ) → page_at pages (suc n) ≡ slice_get pages n
page_at-suc [] n = refl
page_at-suc (page ∷ rest) zero = refl
page_at-suc (page ∷ rest) (suc n) =
    ap (λ (b : Bool). cond b None (cond (suc (suc n) == 1) (Some page) (page_at rest (suc (suc n) - 1)))) (ne_eqb (suc (suc n)) 0 (λ e. omega arith))
    ∙ ap (λ (b : Bool). cond b (Some page) (page_at rest (suc (suc n) - 1))) (ne_eqb (suc (suc n)) 1 (λ e. omega arith))
    ∙ ap (page_at rest) (let e : suc (suc n) - 1 ≡ suc n = omega arith in e)
    ∙ page_at-suc rest n

-- so a page that is there has a place
pub place_of : (pages : List Page) (id : ℕ) (page : Page) → page_at pages id ≡ Some page → (n : ℕ) × (id ≡ suc n) × (slice_get pages n ≡ Some page)
place_of pages zero page e = let none = page_at-zero pages in cc
place_of pages (suc n) page e = (n, refl, sym (page_at-suc pages n) ∙ e)

-- another page at the place of one that is there
pub with_page-there : (pages : List Page) (n : ℕ) (new : Page) → n < length pages → with_page (suc n) new pages ≡ set pages n new
with_page-there pages n new lt =
    let back : suc n - 1 ≡ n = omega arith in
    let rest : List Page = cond (suc n == length pages + 1) (pages ++ (new ∷ [])) pages in
    ap (λ (b : Bool). cond b pages (cond (nat_lt (suc n - 1) (length pages)) (set pages (suc n - 1) new) rest)) (ne_eqb (suc n) 0 (λ e. omega arith))
    ∙ ap (λ (m : ℕ). cond (nat_lt m (length pages)) (set pages m new) rest) back
    ∙ ap (λ (b : Bool). cond b (set pages n new) rest) (lt-ltb n (length pages) lt)

-- and one behind the last
pub with_page-behind : (pages : List Page) (new : Page) → with_page (suc (length pages)) new pages ≡ pages ++ (new ∷ [])
with_page-behind pages new =
    let back : suc (length pages) - 1 ≡ length pages = omega arith in
    let next : suc (length pages) ≡ length pages + 1 = omega arith in
    let rest : List Page = cond (suc (length pages) == length pages + 1) (pages ++ (new ∷ [])) pages in
    ap (λ (b : Bool). cond b pages (cond (nat_lt (suc (length pages) - 1) (length pages)) (set pages (suc (length pages) - 1) new) rest)) (ne_eqb (suc (length pages)) 0 (λ e. omega arith))
    ∙ ap (λ (m : ℕ). cond (nat_lt m (length pages)) (set pages m new) rest) back
    ∙ ap (λ (b : Bool). cond b (set pages (length pages) new) rest) (le-ltb (length pages) (length pages) (omega arith))
    ∙ ap (λ (b : Bool). cond b (pages ++ (new ∷ [])) pages) (eq-eqb (suc (length pages)) (length pages + 1) next)

-- what is in use under a number is a page in use there
pub live_so : (o : Option Page) (page : LivePage) → if_live o ≡ Some page → o ≡ Some (Live page)
live_so None page e = cc
live_so (Some (Live q)) page e = let same : q ≡ page = cc in ap (λ (x : LivePage). Some (Live x)) same
live_so (Some (Free next)) page e = cc
