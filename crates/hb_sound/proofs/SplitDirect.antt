-- A split parts what the page directly holds: on each level one page directly holds a point, before and afterwards, and only two pages differ.
use Rattle.std.proofs.Common.{◌≡◌, ℕ, ◌<◌, ◌⊎◌, inl, inr, List, refl, sym, ap, subst, ◌∙◌}
use Rattle.std.proofs.lemmas.Bool.{cases_eq}
use Rattle.hb_frag.specs.declared.pages.LivePage.{LivePage}
use Rattle.hb_frag.specs.declared.pages.Page.{Page}
use Rattle.hb_ops.specs.Files.{FileState, if_live}
use Rattle.hb_ops.specs.Operations.{effect_of}
use Rattle.hb_ops.specs.Sound.{IsSound}
use Rattle.hb_sound.specs.Laws.{SpaceLaws, TreeLaws}
use Rattle.hb_sound.proofs.Extractions.{Extraction, LicensesExtraction, MayExtract, extracted_so, fresh_page, may_extract, source_page, split_of, with_fields}
use Rattle.hb_sound.specs.LawsOfOperations.{ArePartedAt, HasDirectly, SplitsPartDirect}
use Rattle.hb_sound.specs.PointWalks.{HasOn, IsPointOf}
use Rattle.hb_ops.specs.Allocating.{Allocates, allocated}
use Rattle.hb_sound.proofs.FileParted.{ArePartsOf, IsParted, after as parted_file, is_parted, parts_of}
use Rattle.hb_ops.proofs.Facts.StemLaws.{PartLaws}
use Rattle.hb_sound.proofs.Partition.{each_point_is_held, no_point_is_held_twice}
use Rattle.hb_sound.proofs.SplitSound.{comes_from, split_sound}
use Rattle.hb_sound.proofs.HeldSomewhere.{on_level, under}
use Rattle.hb_sound.proofs.Facts.PagePlaces.{not_vacant}

module _ (trees : TreeLaws) (space : SpaceLaws) (s : FileState) (x : Extraction) (pages : List Page) (page source fresh : LivePage) (allocates : Allocates s.meta x.fresh x.free_after) (parted : IsParted s (record { meta = allocated s.meta x.fresh x.free_after; pages = pages }) x page source fresh) (parts : ArePartsOf s.meta x.fresh page source fresh) where
  abbrev after : FileState
  after = record { meta = allocated s.meta x.fresh x.free_after; pages = pages }

  module _ (sound : IsSound s) (sound' : IsSound after) (p : List ℕ) (point : IsPointOf s p) where
    point' : IsPointOf after p
    point' = record { point = point.point; attributes = point.attributes }

    lt : page.level < s.meta.height
    lt = (sound.well_made x.source page parted.live).fits.level

    -- what one of the two pages directly holds, by the level
    before_on : HasDirectly s x.source p → HasOn s page.level p x.source
    before_on has = on_level s x.source page page.level p parted.live refl has

    source_on : HasDirectly after x.source p → HasOn after page.level p x.source
    source_on has = on_level after x.source source page.level p (ap if_live parted.source_now) parts.level has

    fresh_on : HasDirectly after x.fresh p → HasOn after page.level p x.fresh
    fresh_on has = on_level after x.fresh fresh page.level p (ap if_live parted.fresh_now) parts.fresh_level has

    forth : HasDirectly s x.source p → HasDirectly after x.source p ⊎ HasDirectly after x.fresh p
    forth has =
        let now = each_point_is_held trees space after page.level p sound' point' lt in
        elim (comes_from s x pages page source fresh allocates parted parts now.0 now.1.page now.1.live) [
          | inl both ↦ elim both [ inl w ↦ inr (under after page.level now.0 x.fresh p w.0 now.1) | inr w ↦ inl (under after page.level now.0 x.source p w.1 now.1) ]
          | inr was ↦
              let had : HasOn s page.level p now.0 = record { page = now.1.page; live = was; on = now.1.on; direct = now.1.direct } in
              inl (under after page.level now.0 x.source p (no_point_is_held_twice trees space s page.level p now.0 x.source sound point had (before_on has)) now.1)
        ]

    back : (id : ℕ) → (id ≡ x.source) ⊎ (id ≡ x.fresh) → HasOn after page.level p id → HasDirectly s x.source p
    back id either has =
        let was = each_point_is_held trees space s page.level p sound point lt in
        elim (cases_eq was.0 x.source) [
          | inl is ↦ under s page.level was.0 x.source p is was.1
          | inr ne ↦
              let new = not_vacant s x.fresh was.0 was.1.page parted.vacant was.1.live in
              let now : HasOn after page.level p was.0 = record { page = was.1.page; live = ap if_live (parted.others was.0 ne new) ∙ was.1.live; on = was.1.on; direct = was.1.direct } in
              let same : was.0 ≡ id = no_point_is_held_twice trees space after page.level p was.0 id sound' point' now has in
              elim either [ inl is ↦ absurd (ne (same ∙ is)) | inr is ↦ absurd (new (same ∙ is)) ]
        ]

    pub parts_direct : ArePartedAt s after x.source x.fresh p
    parts_direct = record {
      either = (forth, λ has. elim has [ inl one ↦ back x.source (inl refl) (source_on one) | inr two ↦ back x.fresh (inr refl) (fresh_on two) ]);
      not_both = λ one two.
          not_vacant s x.fresh x.source page parted.vacant parted.live
          (no_point_is_held_twice trees space after page.level p x.source x.fresh sound' point' (source_on one) (fresh_on two));
    }

split_parts_direct : TreeLaws → SpaceLaws → PartLaws → (s : FileState) (x : Extraction) (p : List ℕ) → IsSound s → IsPointOf s p → MayExtract s x → LicensesExtraction s x → ArePartedAt s (effect_of s (split_of x)) x.source x.fresh p
split_parts_direct trees space laws s x p sound point may licensed =
    let parts = parts_of laws s.meta x may.page may.part may.made may.fits in
    let source = source_page x may.page may.part in
    let fresh = fresh_page x may.page may.part in
    let parted = is_parted s x may.page source fresh sound.rooted.numbered may.allocates licensed may.live in
    let after = parted_file s x may.page source fresh sound.rooted.numbered may.allocates licensed may.live in
    let is = extracted_so s x may.page may.part may.live may.fits in
    let sound' : IsSound after = subst IsSound is (split_sound trees laws s x sound may licensed) in
    subst (λ (t : FileState). ArePartedAt s t x.source x.fresh p) (sym is)
    (parts_direct trees space s x after.pages may.page source fresh may.allocates parted parts sound sound' p point)

pub splits_part_direct : TreeLaws → SpaceLaws → PartLaws → SplitsPartDirect
splits_part_direct trees space laws s source fresh path cuts free_after p sound point allowed licensed =
    let x = with_fields source fresh path cuts free_after in
    split_parts_direct trees space laws s x p sound point (may_extract s x allowed) licensed
