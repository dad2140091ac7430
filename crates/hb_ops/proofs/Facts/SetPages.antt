-- Pages by their numbers: what setting one of them makes of touched pages.
use Rattle.std.proofs.Common.{◌≡◌, inl, inr, ℕ, ◌==◌, Bool, true, false, cond, List, [], ◌∷◌, All, Option, Some, refl, sym, ap, ◌∙◌, subst}
use Rattle.std.proofs.lemmas.Bool.{cases_Bool, eqb-true, eqb-false, or_parts}
use Rattle.hb_frag.specs.declared.pages.Page.{Page}
use Rattle.hb_ops.specs.SetPages.{set_pages, has_page}
use Rattle.std.proofs.lemmas.List.Elements.{All-head, All-tail}
use Rattle.hb_lemmas.proofs.Booleans.{at_same, at_other}

-- a page that isn't one of those that were set is as before
pub set_not : (pages : List (ℕ × Page)) (f : ℕ → Option Page) (q : ℕ) → has_page q pages ≡ false → set_pages pages f q ≡ f q
set_not [] f q none = refl
set_not (one ∷ rest) f q none =
    let off = or_parts (q == one.0) (has_page q rest) none in
    set_not rest (λ r. cond (r == one.0) (Some one.1) (f r)) q off.1 ∙ ap (λ (b : Bool). cond b (Some one.1) (f q)) off.0

pub set_pages-same : (pages : List (ℕ × Page)) (f g : ℕ → Option Page) → ((q : ℕ) → f q ≡ g q) → (q : ℕ) → set_pages pages f q ≡ set_pages pages g q
set_pages-same [] f g e q = e q
set_pages-same (one ∷ rest) f g e q =
    set_pages-same rest (λ r. cond (r == one.0) (Some one.1) (f r)) (λ r. cond (r == one.0) (Some one.1) (g r)) (λ r. ap (λ (o : Option Page). cond (r == one.0) (Some one.1) o) (e r)) q

-- what holds of the pages set and of the others holds of each that is there then
pub all_set : (P : ℕ → Page → Type 0) (pages : List (ℕ × Page)) (f : ℕ → Option Page) → All (λ c. P c.0 c.1) pages → ((q : ℕ) (page : Page) → f q ≡ Some page → P q page)
    → (q : ℕ) (page : Page) → set_pages pages f q ≡ Some page → P q page
all_set P [] f set others q page e = others q page e
all_set P (one ∷ rest) f set others q page e =
    let C = λ (c : ℕ × Page). P c.0 c.1 in
    all_set P rest (λ r. cond (r == one.0) (Some one.1) (f r)) (All-tail C one rest set)
    (λ r other is. elim (cases_Bool (r == one.0)) [
      | inl here ↦
          let same : r ≡ one.0 = eqb-true r one.0 here in
          let page_is : Some one.1 ≡ Some other = sym (at_same r one.0 (Some one.1) (f r) same) ∙ is in
          let page_same : one.1 ≡ other = cc in
          subst (λ (n : ℕ). P n other) (sym same) (subst (λ (p : Page). P one.0 p) page_same (All-head C one rest set))
      | inr off ↦ others r other (sym (at_other r one.0 (Some one.1) (f r) (eqb-false r one.0 off)) ∙ is)
    ]) q page e

-- pages that others have too are so once the same were set in both
pub set_both : (pages : List (ℕ × Page)) (f g : ℕ → Option Page) → ((q : ℕ) (page : Page) → f q ≡ Some page → g q ≡ Some page) → (q : ℕ) (page : Page) → set_pages pages f q ≡ Some page → set_pages pages g q ≡ Some page
set_both [] f g h q page e = h q page e
set_both (one ∷ rest) f g h q page e =
    set_both rest (λ r. cond (r == one.0) (Some one.1) (f r)) (λ r. cond (r == one.0) (Some one.1) (g r))
    (λ r page. elim (r == one.0) as (λ b. cond b (Some one.1) (f r) ≡ Some page → cond b (Some one.1) (g r) ≡ Some page) [ true ↦ λ e. e | false ↦ h r page ]) q page e
