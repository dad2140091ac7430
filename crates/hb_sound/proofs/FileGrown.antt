-- The file after it grew: what stands under each number, how many pages are in use, and how often each is named.
-- Of the pages alone, it is as after a split whose source stays as it is.
use Rattle.std.proofs.Common.{◌≡◌, ◌≢◌, ℕ, zero, suc, ◌≤◌, ◌⊎◌, max, inl, inr, List, [], ◌∷◌, length, set, slice_get, Some, refl, sym, ap, subst, ◌∙◌, arith}
use Rattle.std.proofs.lemmas.Bool.{cases_eq}
use Rattle.hb_frag.specs.declared.pages.LivePage.{LivePage}
use Rattle.hb_frag.specs.declared.pages.Page.{Page}
use Rattle.hb_frag.specs.declared.pages.Page.TheVariants.{Live}
use Rattle.hb_layout.specs.declared.meta.Meta.{Meta}
use Rattle.hb_ops.specs.Files.{FileState, if_live, live_page, page_of}
use Rattle.hb_ops.specs.Operations.{with_page}
use Rattle.hb_ops.specs.Sound.{IsCounted, IsSound, times_named}
use Rattle.hb_sound.proofs.Growths.{Growth, LicensesGrowth, MayGrow, growth, grown}
use Rattle.hb_sound.specs.LawsOfOperations.{GrowthChangesOne}
use Rattle.hb_ops.specs.Allocating.{new_root, raised, allocated}
use Rattle.hb_sound.proofs.Extractions.{Extraction}
use Rattle.hb_sound.proofs.FileParted.{IsParted, is_parted}
use Rattle.hb_ops.proofs.Facts.FilePages.{chain_kept}
use Rattle.hb_ops.proofs.Facts.PageNumberLaws.{live_so, place_of, with_page-there}
use Rattle.hb_sound.proofs.SplitChains.{counted_again, high_fits}
use Rattle.hb_sound.proofs.Facts.PagePlaces.{not_vacant}
use Rattle.std.proofs.lemmas.Option.{same_Some, slice_get_within}

-- a page put where it stands already changes nothing
set_same : (pages : List Page) (n : ℕ) (q : Page) → slice_get pages n ≡ Some q → set pages n q ≡ pages
set_same [] n q e = refl
set_same (x ∷ xs) zero q e = ap (λ (y : Page). y ∷ xs) (sym (same_Some x q e))
set_same (x ∷ xs) (suc n) q e = ap (λ (ys : List Page). x ∷ ys) (set_same xs n q e)

put_same : (s : FileState) (id : ℕ) (q : Page) → page_of s id ≡ Some q → with_page id q s.pages ≡ s.pages
put_same s id q e =
    let here = place_of s.pages id q e in
    ap (λ (m : ℕ). with_page m q s.pages) here.1 ∙ with_page-there s.pages here.0 q (slice_get_within s.pages here.0 q here.2) ∙ set_same s.pages here.0 q here.2

-- a chain is one of the pages, whatever the file says of itself
counted_raised : (meta : Meta) (root : ℕ) (pages : List Page) → IsCounted (record { meta = meta; pages = pages }) → IsCounted (record { meta = raised meta root; pages = pages })
counted_raised meta root pages h = record { chain = h.chain; chained = chain_kept (record { meta = meta; pages = pages }) (record { meta = raised meta root; pages = pages }) (λ id next e. e) meta.free h.chain h.chained; all = h.all; live = h.live }

-- a split of the old root, which stays as it is
abbrev as_split : FileState → Growth → Extraction
as_split s x = record { source = s.meta.root; fresh = x.fresh; path = []; cuts = []; free_after = x.free_after }

-- what a file has after it grew
pub record IsGrown (s : FileState) (x : Growth) : Type 0 where
  pub vacant : (q : LivePage) → live_page s x.fresh ≡ Some q → ⊥
  pub there : page_of (grown s x) x.fresh ≡ Some (Live (new_root s.meta))
  pub others : (id : ℕ) → id ≢ x.fresh → page_of (grown s x) id ≡ page_of s id
  pub numbered : length (grown s x).pages ≡ max s.meta.high x.fresh
  pub fits : max s.meta.high x.fresh ≤ s.meta.pages
  pub counted : IsCounted (grown s x)
  pub times : (id : ℕ) → times_named id (grown s x).pages ≡ times_named id s.pages

module _ (s : FileState) (x : Growth) (sound : IsSound s) (may : MayGrow s x) (licensed : LicensesGrowth s x) where
  abbrev old_root : LivePage
  old_root = sound.rooted.top.0

  root_there : page_of s s.meta.root ≡ Some (Live old_root)
  root_there = live_so (page_of s s.meta.root) old_root sound.rooted.top.1

  abbrev pages : List Page
  pages = with_page x.fresh (Live (new_root s.meta)) s.pages

  parted : IsParted s (record { meta = allocated s.meta x.fresh x.free_after; pages = pages }) (as_split s x) old_root old_root (new_root s.meta)
  parted = subst (λ (was : List Page). IsParted s (record { meta = allocated s.meta x.fresh x.free_after; pages = with_page x.fresh (Live (new_root s.meta)) was }) (as_split s x) old_root old_root (new_root s.meta))
      (put_same s s.meta.root (Live old_root) root_there)
      (is_parted s (as_split s x) old_root old_root (new_root s.meta) sound.rooted.numbered may.allocates licensed sound.rooted.top.1)

  others_stay : (id : ℕ) → id ≢ x.fresh → page_of (grown s x) id ≡ page_of s id
  others_stay id new = elim (cases_eq id s.meta.root) [
    | inl is ↦ ap (page_of (grown s x)) is ∙ parted.source_now ∙ sym root_there ∙ ap (page_of s) (sym is)
    | inr ne ↦ parted.others id ne new
  ]

  pub is_grown : IsGrown s x
  is_grown = record {
    vacant = parted.vacant;
    there = parted.fresh_now;
    others = others_stay;
    numbered = parted.numbered;
    fits = high_fits s (as_split s x) pages old_root old_root (new_root s.meta) may.allocates parted sound.rooted.high;
    counted = counted_raised (allocated s.meta x.fresh x.free_after) x.fresh pages
        (counted_again s (as_split s x) pages old_root old_root (new_root s.meta) may.allocates parted licensed sound.counted);
    times = λ id. let all = parted.times id in omega (arith, all);
  }

-- a page in use stays, and one in use afterwards was so before or is the new root
module _ (s : FileState) (x : Growth) (grew : IsGrown s x) where
  pub stays_live : (id : ℕ) (page : LivePage) → live_page s id ≡ Some page → live_page (grown s x) id ≡ Some page
  stays_live id page live = ap if_live (grew.others id (not_vacant s x.fresh id page grew.vacant live)) ∙ live

  pub comes_from : (id : ℕ) (page : LivePage) → live_page (grown s x) id ≡ Some page → ((id ≡ x.fresh) × (page ≡ new_root s.meta)) ⊎ (live_page s id ≡ Some page)
  comes_from id page live = elim (cases_eq id x.fresh) [
    | inl is ↦ inl (is, same_Some page (new_root s.meta) (sym live ∙ ap (live_page (grown s x)) is ∙ ap if_live grew.there))
    | inr ne ↦ inr (sym (ap if_live (grew.others id ne)) ∙ live)
  ]

pub growth_changes_one : GrowthChangesOne
growth_changes_one s fresh free_after sound may licensed =
    let grew = is_grown s (growth fresh free_after) sound may licensed in
    record { vacant = grew.vacant; there = ap if_live grew.there; others = grew.others }
