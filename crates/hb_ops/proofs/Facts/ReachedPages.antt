-- The pages of a file by their numbers, once others were set.
use Rattle.std.proofs.Common.{◌≡◌, ◌≢◌, inl, inr, ℕ, ◌+◌, ◌≤◌, ◌==◌, max, cond, List, [], ◌∷◌, length, All, Some, refl, sym, ap, ◌∙◌, arith}
use Rattle.std.proofs.lemmas.Bool.{cases_Bool, eqb-true, eqb-false}
use Rattle.std.proofs.lemmas.List.Elements.{All-head, All-tail}
use Rattle.hb_frag.specs.declared.pages.Page.{Page}
use Rattle.hb_ops.specs.Files.{page_at}
use Rattle.hb_ops.specs.Operations.{with_page, with_changed_pages}
use Rattle.hb_ops.specs.SetPages.{set_pages}
use Rattle.hb_ops.proofs.Facts.SetPages.{set_pages-same}
use Rattle.hb_ops.proofs.Facts.FilePages.{HasSet, sets_page}
use Rattle.hb_lemmas.proofs.Booleans.{at_same, at_other}

-- ---- several pages, one after the other

-- the number of a page that is there, or of the next one
abbrev pub Reaches : ℕ → ℕ × Page → Type 0
Reaches n changed = (1 ≤ changed.0) × (changed.0 ≤ n + 1)

-- the greater of a count and each of the numbers
abbrev pub greatest : ℕ → List (ℕ × Page) → ℕ
greatest n [] = n
greatest n (one ∷ rest) = greatest (max n one.0) rest

module _ (one : ℕ × Page) (rest : List (ℕ × Page)) (file : List Page) (reach : All (Reaches (length file)) (one ∷ rest)) where
  first_set : HasSet file one.0 one.1 (with_page one.0 one.1 file)
  first_set = let r = All-head (Reaches (length file)) one rest reach in sets_page file one.0 one.1 r.0 r.1

  rest_reach : All (Reaches (length (with_page one.0 one.1 file))) rest
  rest_reach = λ i d lt. let r = All-tail (Reaches (length file)) one rest reach i d lt in (r.0, omega (arith, r.1, first_set.long))

  one_at : (q : ℕ) → page_at (with_page one.0 one.1 file) q ≡ cond (q == one.0) (Some one.1) (page_at file q)
  one_at q = elim (cases_Bool (q == one.0)) [
    | inl here ↦
        let same : q ≡ one.0 = eqb-true q one.0 here in
        ap (page_at (with_page one.0 one.1 file)) same ∙ first_set.there ∙ sym (at_same q one.0 (Some one.1) (page_at file q) same)
    | inr off ↦
        let ne : q ≢ one.0 = eqb-false q one.0 off in
        first_set.others q ne ∙ sym (at_other q one.0 (Some one.1) (page_at file q) ne)
  ]

pub pages_set : (pages : List (ℕ × Page)) (file : List Page) → All (Reaches (length file)) pages → (q : ℕ) → page_at (with_changed_pages pages file) q ≡ set_pages pages (page_at file) q
pages_set [] file reach q = refl
pages_set (one ∷ rest) file reach q =
    pages_set rest (with_page one.0 one.1 file) (rest_reach one rest file reach) q
    ∙ set_pages-same rest (page_at (with_page one.0 one.1 file)) (λ r. cond (r == one.0) (Some one.1) (page_at file r)) (one_at one rest file reach) q

pub pages_long : (pages : List (ℕ × Page)) (file : List Page) → All (Reaches (length file)) pages → length (with_changed_pages pages file) ≡ greatest (length file) pages
pages_long [] file reach = refl
pages_long (one ∷ rest) file reach =
    pages_long rest (with_page one.0 one.1 file) (rest_reach one rest file reach)
    ∙ ap (λ (n : ℕ). greatest n rest) (first_set one rest file reach).long
