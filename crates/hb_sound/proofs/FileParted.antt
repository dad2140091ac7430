-- The file after a split: what stands under each number, how many pages are in use, and how often each is named.
use Rattle.std.proofs.Common.{◌≡◌, ◌≢◌, ℕ, ◌+◌, ◌<◌, ◌⊎◌, max, inl, inr, List, length, Some, refl, sym, ap, ◌∙◌, arith}
use Rattle.std.specs.List.{Contains}
use Rattle.std.proofs.lemmas.Bool.{cases_eq}
use Rattle.hb_space.specs.Boxes.{Area, volume}
use Rattle.hb_frag.specs.declared.leaves.Leaf.TheVariants.{Child, Sibling}
use Rattle.hb_frag.specs.declared.pages.LivePage.{LivePage}
use Rattle.hb_frag.specs.declared.pages.Page.{Page}
use Rattle.hb_frag.specs.declared.pages.Page.TheVariants.{Live, Free}
use Rattle.hb_frag.specs.Trees.{Tree}
use Rattle.hb_frag.specs.Leaves.{Placed, leaves_of, siblings_of}
use Rattle.hb_layout.specs.declared.meta.Meta.{Meta}
use Rattle.hb_ops.specs.Files.{FileState, if_live, live_page, page_of}
use Rattle.hb_ops.specs.Operations.{with_page}
use Rattle.hb_ops.specs.Sound.{FitsFile, count_live, count_name, times_named}
use Rattle.hb_sound.proofs.Extractions.{Extraction, FitsPart, LicensesExtraction, fresh_page, source_page}
use Rattle.hb_ops.specs.Allocating.{Allocates, allocated}
use Rattle.hb_sound.proofs.CutNames.{once}
use Rattle.hb_ops.proofs.Facts.PageLists.{HasInstead, none_behind, put_behind, put_instead}
use Rattle.hb_ops.proofs.Facts.PageNumberLaws.{live_so}
use Rattle.hb_sound.proofs.Facts.PagesParted.{fresh_smaller, names_parted, stems_child, stems_sibling}
use Rattle.hb_ops.proofs.Facts.PartedPageLaws.{fresh_made, source_made}
use Rattle.hb_ops.proofs.Facts.StemLaws.{fresh_stems, source_stems, PartLaws}
use Rattle.hb_ops.proofs.Facts.PlacedLaws.{leaf_is_sibling, placed, sibling_is_leaf}

-- what the page that is split and the page that is made have of the page before; the one names the other
pub record ArePartsOf (meta : Meta) (name : ℕ) (page source fresh : LivePage) : Type 0 where
  pub level : source.level ≡ page.level
  pub area : source.area ≡ page.area
  pub fresh_level : fresh.level ≡ page.level
  pub smaller : volume fresh.area < volume page.area
  pub siblings : (n : ℕ) (a : Area) → Contains (siblings_of source) (n, a) → ((n ≡ name) × (a ≡ fresh.area)) ⊎ Contains (siblings_of page) (n, a)
  pub children : (n : ℕ) (a : Area) → Contains (leaves_of source.frag source.area) (placed (Child n) a) → Contains (leaves_of page.frag page.area) (placed (Child n) a)
  pub fresh_siblings : (n : ℕ) (a : Area) → Contains (siblings_of fresh) (n, a) → Contains (siblings_of page) (n, a)
  pub fresh_children : (n : ℕ) (a : Area) → Contains (leaves_of fresh.frag fresh.area) (placed (Child n) a) → Contains (leaves_of page.frag page.area) (placed (Child n) a)
  pub names : (id : ℕ) → count_name id (siblings_of source) + count_name id (siblings_of fresh) ≡ count_name id (siblings_of page) + once id name
  pub source_made : FitsFile meta source
  pub fresh_made : FitsFile meta fresh

names_same : (name n : ℕ) (b a : Area) → placed (Sibling name) b ≡ placed (Sibling n) a → (n ≡ name) × (a ≡ b)
names_same name n b a e =
    let leaf = ap (λ (l : Placed). l.leaf) e in
    let same : n ≡ name = cc in
    (same, sym (ap (λ (l : Placed). l.area) e))

pub parts_of : PartLaws → (meta : Meta) (x : Extraction) (page : LivePage) (part : Tree × Area) → FitsFile meta page → FitsPart x page part → ArePartsOf meta x.fresh page (source_page x page part) (fresh_page x page part)
parts_of laws meta x page part made fits =
    let source = source_page x page part in
    let fresh = fresh_page x page part in
    let old = leaves_of page.frag page.area in
    record {
      level = refl;
      area = refl;
      fresh_level = refl;
      smaller = fresh_smaller laws x page part made.well_cut fits;
      siblings = λ n a has. elim (source_stems laws x.fresh x.path x.cuts page part fits (placed (Sibling n) a) (sibling_is_leaf (leaves_of source.frag source.area) n a has)) [
        | inl is ↦ inl (names_same x.fresh n fresh.area a is)
        | inr stems ↦ inr (leaf_is_sibling old n a (stems_sibling old n a stems))
      ];
      children = λ n a has. elim (source_stems laws x.fresh x.path x.cuts page part fits (placed (Child n) a) has) [
        | inl is ↦ absurd (let leaf = ap (λ (l : Placed). l.leaf) is in let no : ⊥ = cc in no)
        | inr stems ↦ stems_child old n a stems
      ];
      fresh_siblings = λ n a has. leaf_is_sibling old n a (stems_sibling old n a (fresh_stems laws x.fresh x.path x.cuts page part fits (placed (Sibling n) a) (sibling_is_leaf (leaves_of fresh.frag fresh.area) n a has)));
      fresh_children = λ n a has. stems_child old n a (fresh_stems laws x.fresh x.path x.cuts page part fits (placed (Child n) a) has);
      names = names_parted laws x page part made.well_cut fits;
      source_made = source_made laws meta x.fresh x.path x.cuts page part made fits;
      fresh_made = fresh_made laws meta x.fresh x.path x.cuts page part made fits;
    }

-- the file t has the one page under the number of the source, the other under the new one, and else what s has
pub record IsParted (s t : FileState) (x : Extraction) (page source fresh : LivePage) : Type 0 where
  pub meta : t.meta ≡ allocated s.meta x.fresh x.free_after
  pub live : live_page s x.source ≡ Some page
  pub vacant : (q : LivePage) → live_page s x.fresh ≡ Some q → ⊥
  pub source_now : page_of t x.source ≡ Some (Live source)
  pub fresh_now : page_of t x.fresh ≡ Some (Live fresh)
  pub others : (id : ℕ) → id ≢ x.source → id ≢ x.fresh → page_of t id ≡ page_of s id
  pub numbered : length t.pages ≡ max s.meta.high x.fresh
  pub counted : count_live t.pages ≡ count_live s.pages + 1
  pub times : (id : ℕ) → times_named id t.pages + count_name id (siblings_of page) ≡ times_named id s.pages + count_name id (siblings_of source) + count_name id (siblings_of fresh)

-- the pages with the new one, where its number is free or behind the last
pub record HasTaken (pages : List Page) (high fresh : ℕ) (new : LivePage) (after : List Page) : Type 0 where
  pub next : ℕ
  pub has : HasInstead pages fresh (Free next) (Live new) after
  pub numbered : length after ≡ max high fresh

module _ (s : FileState) (x : Extraction) (page source fresh : LivePage) (numbered : length s.pages ≡ s.meta.high) (allocates : Allocates s.meta x.fresh x.free_after) (licensed : LicensesExtraction s x) (live : live_page s x.source ≡ Some page) where
  vacant : (q : LivePage) → live_page s x.fresh ≡ Some q → ⊥
  vacant q e = elim (cases_eq s.meta.free 0) [
    | inl none ↦
        let behind = none_behind s.pages x.fresh (omega (arith, (allocates.from_behind none).0, numbered)) in
        let no_page = ap if_live behind in
        let no : ⊥ = cc in no
    | inr some ↦
        let free = ap if_live (licensed some) in
        let no : ⊥ = cc in no
  ]

  apart : x.fresh ≢ x.source
  apart e = vacant page (ap (live_page s) e ∙ live)

  abbrev first : List Page
  first = with_page x.source (Live source) s.pages

  put_source : HasInstead s.pages x.source (Live page) (Live source) first × (length first ≡ length s.pages)
  put_source = put_instead s.pages x.source (Live page) (Live source) (live_so (page_of s x.source) page live)

  put_fresh : HasTaken first s.meta.high x.fresh fresh (with_page x.fresh (Live fresh) first)
  put_fresh = elim (cases_eq s.meta.free 0) [
    | inl none ↦
        let at = (allocates.from_behind none).0 in
        let w = put_behind first x.fresh (Live fresh) (omega (arith, at, numbered, put_source.1)) in
        record { next = 0; has = w.0; numbered = omega (arith, at, numbered, put_source.1, w.1) }
    | inr some ↦
        let at = allocates.from_chain some in
        let free = put_source.0.others x.fresh apart ∙ licensed some in
        let w = put_instead first x.fresh (Free x.free_after) (Live fresh) free in
        record { next = x.free_after; has = w.0; numbered = omega (arith, at.1, numbered, put_source.1, w.1) }
  ]

  abbrev pub after : FileState
  after = record { meta = allocated s.meta x.fresh x.free_after; pages = with_page x.fresh (Live fresh) first }

  pub is_parted : IsParted s after x page source fresh
  is_parted = record {
    meta = refl;
    live = live;
    vacant = vacant;
    source_now = put_fresh.has.others x.source (λ e. apart (sym e)) ∙ put_source.0.there;
    fresh_now = put_fresh.has.there;
    others = λ id ne new. put_fresh.has.others id new ∙ put_source.0.others id ne;
    numbered = put_fresh.numbered;
    counted = let one = put_source.0.counted in let two = put_fresh.has.counted in omega (arith, one, two);
    times = λ id. let one = put_source.0.times id in let two = put_fresh.has.times id in omega (arith, one, two);
  }
