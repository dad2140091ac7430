-- After a split the leaves that name pages match them, each page is named as often as it should be, and so the file is sound.
use Rattle.std.proofs.Common.{◌≡◌, ◌≢◌, ℕ, suc, ◌+◌, ◌≤◌, ◌⊎◌, inl, inr, Bool, cond, List, Some, refl, sym, ap, subst, ◌∙◌, arith, eq-eqb, ne_eqb}
use Rattle.std.specs.List.{Contains}
use Rattle.std.proofs.lemmas.Bool.{cases_eq, cases_lt}
use Rattle.hb_space.specs.Boxes.{Area, Within, whole_area, volume}
use Rattle.hb_frag.specs.declared.leaves.Leaf.TheVariants.{Child}
use Rattle.hb_frag.specs.declared.pages.LivePage.{LivePage}
use Rattle.hb_frag.specs.declared.pages.Page.{Page}
use Rattle.hb_frag.specs.Leaves.{leaves_of, siblings_of}
use Rattle.hb_ops.specs.Files.{FileState, if_live, live_page}
use Rattle.hb_ops.specs.Operations.{effect_of}
use Rattle.hb_ops.specs.Sound.{AreWellMade, ChildrenMatch, FitsFile, IsCovered, IsSound, SiblingsMatch, times_named, HasSame, HasBelow}
use Rattle.hb_sound.specs.Laws.{TreeLaws}
use Rattle.hb_sound.specs.LawsOfOperations.{ChangesTwo, SplitsChangeTwo, SplitsKeepSound}
use Rattle.hb_sound.proofs.Extractions.{Extraction, LicensesExtraction, MayExtract, extracted_so, fresh_page, may_extract, source_page, split_of, with_fields}
use Rattle.hb_ops.specs.Allocating.{Allocates, allocated}
use Rattle.hb_sound.proofs.CutNames.{once}
use Rattle.hb_sound.proofs.FileParted.{ArePartsOf, IsParted, after as parted_file, is_parted, parts_of}
use Rattle.hb_sound.proofs.Facts.OneLevel.{spread}
use Rattle.hb_sound.proofs.Facts.PagePlaces.{live_there, not_vacant, WasLive}
use Rattle.hb_ops.proofs.Facts.StemLaws.{PartLaws}
use Rattle.hb_sound.proofs.SiblingLeaves.{named_among}
use Rattle.hb_ops.proofs.Facts.PlacedLaws.{placed}
use Rattle.hb_sound.proofs.SplitChains.{counted_again, rooted_again, stays_live}
use Rattle.std.proofs.lemmas.Option.{same_Some}

-- no box is larger than the whole space
no_larger : TreeLaws → (s : FileState) → AreWellMade s → SiblingsMatch s → IsCovered s → (id : ℕ) (page : LivePage) → live_page s id ≡ Some page → volume page.area ≤ volume (whole_area s.meta.k)
no_larger laws s made match covered = spread laws s made match covered (λ id page. volume page.area ≤ volume (whole_area s.meta.k)) (record {
  begins = λ id page live is. let e = ap volume is in omega (arith, e);
  goes_on = λ id page w live before. let le : volume w.namer.area ≤ volume (whole_area s.meta.k) = before in let less = w.larger in omega (arith, le, less);
})

-- no sibling leaf names a page that isn't in use
pub named_none : (s : FileState) (id : ℕ) → SiblingsMatch s → ((q : LivePage) → live_page s id ≡ Some q → ⊥) → times_named id s.pages ≡ 0
named_none s id match vacant = elim (cases_lt 0 (times_named id s.pages)) [
  | inl some ↦
      let w = named_among id s.pages some in
      let m = match (suc w.place) w.page id w.area (live_there s w.place w.page w.there) w.names in
      absurd (vacant m.0 m.1)
  | inr none ↦ omega (arith, none)
]

module _ (s : FileState) (x : Extraction) (pages : List Page) (page source fresh : LivePage) (allocates : Allocates s.meta x.fresh x.free_after) (parted : IsParted s (record { meta = allocated s.meta x.fresh x.free_after; pages = pages }) x page source fresh) (parts : ArePartsOf s.meta x.fresh page source fresh) where
  abbrev pub after : FileState
  after = record { meta = allocated s.meta x.fresh x.free_after; pages = pages }

  fresh_live : live_page after x.fresh ≡ Some fresh
  fresh_live = ap if_live parted.fresh_now

  -- a page in use is the new one, the one that was split, or another of before
  pub comes_from : (id : ℕ) (new : LivePage) → live_page after id ≡ Some new → (((id ≡ x.fresh) × (new ≡ fresh)) ⊎ ((new ≡ source) × (id ≡ x.source))) ⊎ (live_page s id ≡ Some new)
  comes_from id new live = elim (cases_eq id x.fresh) [
    | inl is ↦ inl (inl (is, same_Some new fresh (sym live ∙ ap (live_page after) is ∙ fresh_live)))
    | inr ne ↦ elim (cases_eq id x.source) [
      | inl is ↦ inl (inr (same_Some new source (sym live ∙ ap (live_page after) is ∙ ap if_live parted.source_now), is))
      | inr other ↦ inr (sym (ap if_live (parted.others id other ne)) ∙ live)
    ]
  ]

  -- all but the new one were there, with their level and their box
  was_there : (id : ℕ) (new : LivePage) → live_page after id ≡ Some new → ((id ≡ x.fresh) × (new ≡ fresh)) ⊎ WasLive s id new
  was_there id new live = elim (comes_from id new live) [
    | inl both ↦ elim both [
      | inl w ↦ inl w
      | inr w ↦ inr (record {
        old = page;
        live = ap (live_page s) w.1 ∙ parted.live;
        level = ap (λ (q : LivePage). q.level) w.0 ∙ parts.level;
        area = ap (λ (q : LivePage). q.area) w.0 ∙ parts.area;
      })
    ]
    | inr was ↦ inr (record { old = new; live = was; level = refl; area = refl })
  ]

  made_again : AreWellMade s → AreWellMade after
  made_again h id new live = elim (comes_from id new live) [
    | inl both ↦ elim both [
      | inl w ↦ subst (FitsFile s.meta) (sym w.1) parts.fresh_made
      | inr w ↦ subst (FitsFile s.meta) (sym w.0) parts.source_made
    ]
    | inr was ↦ h id new was
  ]

  -- what a sibling leaf of before names is there
  sibling_stays : (level name : ℕ) (area : Area) → HasSame s level name area → HasSame after level name area
  sibling_stays level name area m =
      let again = stays_live s x pages page source fresh allocates parted parts name m.0 m.1 in
      (again.new, again.live, again.level ∙ m.2, again.area ∙ m.3)

  siblings_of_source : SiblingsMatch s → (name : ℕ) (area : Area) → Contains (siblings_of source) (name, area) → HasSame after source.level name area
  siblings_of_source h name area has = elim (parts.siblings name area has) [
    | inl new ↦ (fresh, ap (live_page after) new.0 ∙ fresh_live, parts.fresh_level ∙ sym parts.level, sym new.1)
    | inr old ↦ subst (λ (level : ℕ). HasSame after level name area) (sym parts.level) (sibling_stays page.level name area (h x.source page name area parted.live old))
  ]

  siblings_of_fresh : SiblingsMatch s → (name : ℕ) (area : Area) → Contains (siblings_of fresh) (name, area) → HasSame after fresh.level name area
  siblings_of_fresh h name area has = subst (λ (level : ℕ). HasSame after level name area) (sym parts.fresh_level) (sibling_stays page.level name area (h x.source page name area parted.live (parts.fresh_siblings name area has)))

  siblings_match : SiblingsMatch s → SiblingsMatch after
  siblings_match h id new name area live has = elim (comes_from id new live) [
    | inl both ↦ elim both [
      | inl w ↦ subst (λ (q : LivePage). Contains (siblings_of q) (name, area) → HasSame after q.level name area) (sym w.1) (siblings_of_fresh h name area) has
      | inr w ↦ subst (λ (q : LivePage). Contains (siblings_of q) (name, area) → HasSame after q.level name area) (sym w.0) (siblings_of_source h name area) has
    ]
    | inr was ↦ sibling_stays new.level name area (h id new name area was has)
  ]

  -- and what a child leaf names
  abbrev HasChild : LivePage → ℕ → Area → Type 0
  HasChild q name area = Contains (leaves_of q.frag q.area) (placed (Child name) area)

  child_stays : (level name : ℕ) (area : Area) → HasBelow s level name area → HasBelow after level name area
  child_stays level name area m =
      let again = stays_live s x pages page source fresh allocates parted parts name m.0 m.1 in
      (again.new, again.live, ap (λ (k : ℕ). k + 1) again.level ∙ m.2, subst (λ (a : Area). Within area a) (sym again.area) m.3)

  children_of_source : ChildrenMatch s → (name : ℕ) (area : Area) → HasChild source name area → HasBelow after source.level name area
  children_of_source h name area has = subst (λ (level : ℕ). HasBelow after level name area) (sym parts.level) (child_stays page.level name area (h x.source page name area parted.live (parts.children name area has)))

  children_of_fresh : ChildrenMatch s → (name : ℕ) (area : Area) → HasChild fresh name area → HasBelow after fresh.level name area
  children_of_fresh h name area has = subst (λ (level : ℕ). HasBelow after level name area) (sym parts.fresh_level) (child_stays page.level name area (h x.source page name area parted.live (parts.fresh_children name area has)))

  children_match : ChildrenMatch s → ChildrenMatch after
  children_match h id new name area live has = elim (comes_from id new live) [
    | inl both ↦ elim both [
      | inl w ↦ subst (λ (q : LivePage). HasChild q name area → HasBelow after q.level name area) (sym w.1) (children_of_fresh h name area) has
      | inr w ↦ subst (λ (q : LivePage). HasChild q name area → HasBelow after q.level name area) (sym w.0) (children_of_source h name area) has
    ]
    | inr was ↦ child_stays new.level name area (h id new name area was has)
  ]

  -- each page is named as often as before, and the new one once
  times_again : (id : ℕ) → times_named id pages ≡ times_named id s.pages + once id x.fresh
  times_again id = let one = parted.times id in let two = parts.names id in omega (arith, one, two)

  times_same : (id : ℕ) → id ≢ x.fresh → times_named id pages ≡ times_named id s.pages
  times_same id ne =
      let none : once id x.fresh ≡ 0 = ap (λ (b : Bool). cond b 1 0) (ne_eqb x.fresh id (λ e. ne (sym e))) in
      let all = times_again id in
      omega (arith, none, all)

  fresh_named : SiblingsMatch s → times_named x.fresh pages ≡ 1
  fresh_named h =
      let one : once x.fresh x.fresh ≡ 1 = ap (λ (b : Bool). cond b 1 0) (eq-eqb x.fresh x.fresh refl) in
      let none = named_none s x.fresh h parted.vacant in
      let all = times_again x.fresh in
      omega (arith, one, none, all)

  module _ (bound : (id : ℕ) (q : LivePage) → live_page s id ≡ Some q → volume q.area ≤ volume (whole_area s.meta.k)) where
    -- the new page hasn't the whole space
    fresh_is_part : (new : LivePage) → new ≡ fresh → new.area ≡ whole_area s.meta.k → ⊥
    fresh_is_part new is whole =
        let same : volume fresh.area ≡ volume (whole_area s.meta.k) = ap (λ (q : LivePage). volume q.area) (sym is) ∙ ap volume whole in
        let most = bound x.source page parted.live in
        let less = parts.smaller in
        absurd (omega (arith, same, most, less))

    alone_again : IsCovered s → (id other : ℕ) (new same : LivePage) → live_page after id ≡ Some new → live_page after other ≡ Some same → new.level ≡ same.level → new.area ≡ whole_area s.meta.k → same.area ≡ whole_area s.meta.k → id ≡ other
    alone_again h id other new same live live' level whole whole' = elim (was_there id new live) [
      | inl w ↦ absurd (fresh_is_part new w.1 whole)
      | inr one ↦ elim (was_there other same live') [
        | inl w ↦ absurd (fresh_is_part same w.1 whole')
        | inr two ↦ h.alone id other one.old two.old one.live two.live (sym one.level ∙ level ∙ two.level) (sym one.area ∙ whole) (sym two.area ∙ whole')
      ]
    ]

    covered_again : SiblingsMatch s → IsCovered s → IsCovered after
    covered_again match h = record {
      first = λ level lt.
          let old = h.first level lt in
          let again = stays_live s x pages page source fresh allocates parted parts old.0 old.1 old.2 in
          (old.0, again.new, again.live, again.level ∙ old.3, again.area ∙ old.4);
      alone = alone_again h;
      not_named = λ id new live whole. elim (was_there id new live) [
        | inl w ↦ absurd (fresh_is_part new w.1 whole)
        | inr was ↦ times_same id (not_vacant s x.fresh id was.old parted.vacant was.live) ∙ h.not_named id was.old was.live (sym was.area ∙ whole)
      ];
      named_once = λ id new live part. elim (was_there id new live) [
        | inl w ↦ ap (λ (n : ℕ). times_named n pages) w.0 ∙ fresh_named match
        | inr was ↦ times_same id (not_vacant s x.fresh id was.old parted.vacant was.live) ∙ h.named_once id was.old was.live (λ whole. part (was.area ∙ whole))
      ];
    }

    pub sound_again : LicensesExtraction s x → IsSound s → IsSound after
    sound_again licensed h = record {
      rooted = rooted_again s x pages page source fresh allocates parted parts licensed h.rooted h.counted;
      counted = counted_again s x pages page source fresh allocates parted licensed h.counted;
      well_made = made_again h.well_made;
      siblings = siblings_match h.siblings;
      children = children_match h.children;
      covered = covered_again h.siblings h.covered;
    }

pub split_sound : TreeLaws → PartLaws → (s : FileState) (x : Extraction) → IsSound s → MayExtract s x → LicensesExtraction s x → IsSound (effect_of s (split_of x))
split_sound trees laws s x sound may licensed =
    let parts = parts_of laws s.meta x may.page may.part may.made may.fits in
    let source = source_page x may.page may.part in
    let fresh = fresh_page x may.page may.part in
    let parted = is_parted s x may.page source fresh sound.rooted.numbered may.allocates licensed may.live in
    let pages = (parted_file s x may.page source fresh sound.rooted.numbered may.allocates licensed may.live).pages in
    subst IsSound (sym (extracted_so s x may.page may.part may.live may.fits))
    (sound_again s x pages may.page source fresh may.allocates parted parts (no_larger trees s sound.well_made sound.siblings sound.covered) licensed sound)

pub splits_keep_sound : TreeLaws → PartLaws → SplitsKeepSound
splits_keep_sound trees laws s source fresh path cuts free_after sound allowed licensed =
    let x = with_fields source fresh path cuts free_after in
    split_sound trees laws s x sound (may_extract s x allowed) licensed

-- and only the two pages change
split_changes : (s : FileState) (x : Extraction) → IsSound s → MayExtract s x → LicensesExtraction s x → ChangesTwo s (effect_of s (split_of x)) x.source x.fresh x.path x.cuts
split_changes s x sound may licensed =
    let source = source_page x may.page may.part in
    let fresh = fresh_page x may.page may.part in
    let parted = is_parted s x may.page source fresh sound.rooted.numbered may.allocates licensed may.live in
    subst (λ (t : FileState). ChangesTwo s t x.source x.fresh x.path x.cuts) (sym (extracted_so s x may.page may.part may.live may.fits))
    (record {
      page = may.page;
      live = may.live;
      part = may.part;
      there = may.fits.there;
      source_now = ap if_live parted.source_now;
      fresh_now = ap if_live parted.fresh_now;
      others = parted.others;
    })

pub splits_change_two : SplitsChangeTwo
splits_change_two s source fresh path cuts free_after sound allowed licensed =
    let x = with_fields source fresh path cuts free_after in
    split_changes s x sound (may_extract s x allowed) licensed
