-- A file of one page: which page each number has, and when it keeps the rules of the root and of the counts.
use Rattle.std.proofs.Common.{◌≡◌, inl, inr, ℕ, ◌+◌, ◌≤◌, ◌==◌, Bool, false, cond, [], ◌∷◌, Option, Some, None, refl, sym, ap, ◌∙◌, subst, arith, ne_eqb}
use Rattle.std.proofs.lemmas.Bool.{cases_eq}
use Rattle.hb_lemmas.proofs.Booleans.{cond-same}
use Rattle.hb_space.specs.Boxes.{whole_area}
use Rattle.hb_frag.specs.declared.pages.LivePage.{LivePage}
use Rattle.hb_frag.specs.declared.pages.Page.{Page}
use Rattle.hb_frag.specs.declared.pages.Page.TheVariants.{Live, Free}
use Rattle.hb_layout.specs.declared.meta.Meta.{Meta}
use Rattle.hb_ops.specs.Files.{FileState, page_at, live_page}
use Rattle.hb_ops.specs.Sound.{IsRooted, IsCounted}
use Rattle.hb_restart.specs.NewFiles.{lone}
use Rattle.hb_ops.proofs.Facts.PageNumberLaws.{live_so}

-- the page under a number is the one page, under 1
pub page_alone : (p : Page) (id : ℕ) (q : Page) → page_at (p ∷ []) id ≡ Some q → (id ≡ 1) × (p ≡ q)
page_alone p id q e = elim (cases_eq id 1) [
  | inl one ↦ let Q : ℕ → Type 0 = λ n. page_at (p ∷ []) n ≡ Some q in let there : Some p ≡ Some q = subst Q one e in (one, cc)
  | inr other ↦
      let off : (id == 1) ≡ false = ne_eqb id 1 other in
      let none : page_at (p ∷ []) id ≡ None = ap (λ (b : Bool). cond (id == 0) None (cond b (Some p) None)) off ∙ cond-same {A = Option Page} (id == 0) None in
      absurd (let never : None ≡ Some q = sym none ∙ e in cc)
]

-- so it is of a page in use
pub live_alone : (meta : Meta) (p : Page) (id : ℕ) (q : LivePage) → live_page (lone meta p) id ≡ Some q → (id ≡ 1) × (p ≡ Live q)
live_alone meta p id q e = page_alone p id (Live q) (live_so (page_at (p ∷ []) id) q e)

module _ (meta : Meta) (page : LivePage) where
  abbrev file : FileState
  file = lone meta (Live page)

  -- the file keeps the rules of the root where the page is all of the space and stands at the level of the root
  pub to_rooted : meta.high ≡ 1 → 1 ≤ meta.pages → meta.root ≡ 1 → meta.free ≤ 1 → meta.live ≤ 1 → page.level + 1 ≡ meta.height → page.area ≡ whole_area meta.k → IsRooted file
  to_rooted high pages root free live level whole = record {
    numbered = sym high;
    some = omega (arith, high);
    high = omega (arith, high, pages);
    root = omega (arith, high, root);
    free = omega (arith, high, free);
    live = omega (arith, high, live);
    top = (page, (let Q : ℕ → Type 0 = λ n. live_page file n ≡ Some page in subst Q (sym root) refl), level, whole);
  }

  -- and those of the counts where no page is free
  pub to_counted : meta.free ≡ 0 → meta.live ≡ 1 → IsCounted file
  to_counted free live = record {
    chain = [];
    chained = free;
    all = λ id next is. absurd (let one = page_alone (Live page) id (Free next) is in let never : Live page ≡ Free next = one.1 in cc);
    live = live;
  }
