-- A split leaves the contents as they are: each record stands in a leaf before exactly where it does afterwards.
use Rattle.std.proofs.Common.{◌≡◌, ℕ, ◌<◌, ◌≤◌, inl, inr, List, [], ◌∷◌, length, Some, refl, sym, ap, subst, ◌∙◌, arith}
use Rattle.std.specs.FinMap as finite
use Rattle.std.proofs.lemmas.Bool.{cases_eq}
use Rattle.std.proofs.lemmas.Cmp.{nat_list_cmp_total}
use Rattle.hb_space.specs.Boxes.{Area, IsArea, Holds, volume, volume_between}
use Rattle.hb_space.specs.Points.{IsPoint}
use Rattle.hb_space.specs.declared.form.TheConstants.{KMAX}
use Rattle.hb_space.specs.declared.records.Record.{Record}
use Rattle.hb_frag.specs.declared.pages.LivePage.{LivePage}
use Rattle.hb_frag.specs.declared.pages.Page.{Page}
use Rattle.hb_frag.specs.Leaves.{leaves_of}
use Rattle.hb_ops.specs.Files.{FileState, contents_of, if_live, live_page}
use Rattle.hb_ops.specs.Operations.{effect_of}
use Rattle.hb_ops.specs.Sound.{FitsFile, IsSound}
use Rattle.hb_ops.specs.Standing.{RecordsAreContents}
use Rattle.hb_sound.specs.Laws.{SpaceLaws, TreeLaws}
use Rattle.hb_sound.proofs.Extractions.{Extraction, LicensesExtraction, MayExtract, extracted_so, fresh_page, may_extract, source_page, split_of, with_fields}
use Rattle.hb_sound.specs.LawsOfOperations.{SplitsKeepContents}
use Rattle.hb_ops.specs.Allocating.{Allocates, allocated}
use Rattle.hb_sound.proofs.FileParted.{ArePartsOf, IsParted, after as parted_file, is_parted, parts_of}
use Rattle.hb_ops.proofs.Facts.StemLaws.{PartLaws}
use Rattle.hb_sound.proofs.Partition.{pages_have_boxes, standing_is_contents}
use Rattle.hb_sound.proofs.Facts.RecordsParted.{AmongLeaves, ShareRecords, share_records}
use Rattle.hb_sound.proofs.RecordsStand.{HasRecord, contents_stand, stands_at}
use Rattle.std.proofs.lemmas.Option.{same_Some}
use Rattle.hb_sound.proofs.SplitSound.{comes_from, split_sound}
use Rattle.hb_sound.proofs.Facts.PagePlaces.{not_vacant}
use Rattle.hb_space.proofs.Facts.PointOrder.{exact_points}
use Rattle.hb_lemmas.proofs.Options.{same_options}
use Rattle.hb_ops.proofs.Facts.Volumes.{some_points}

-- a record of a leaf of a page is one of the file
pub in_file : (s : FileState) (id : ℕ) (page : LivePage) (r : Record) → live_page s id ≡ Some page → page.level ≡ 0 → AmongLeaves (leaves_of page.frag page.area) r → HasRecord s r
in_file s id page r live level w = record { id = id; page = page; live = live; level = level; leaf = w.leaf; there = w.there; among = w.among }

pub among_of : (s : FileState) (r : Record) (h : HasRecord s r) → AmongLeaves (leaves_of h.page.frag h.page.area) r
among_of s r h = record { leaf = h.leaf; there = h.there; among = h.among }

module _ (s : FileState) (x : Extraction) (pages : List Page) (page source fresh : LivePage) (allocates : Allocates s.meta x.fresh x.free_after) (parted : IsParted s (record { meta = allocated s.meta x.fresh x.free_after; pages = pages }) x page source fresh) (parts : ArePartsOf s.meta x.fresh page source fresh) (share : ShareRecords page source fresh) where
  abbrev after : FileState
  after = record { meta = allocated s.meta x.fresh x.free_after; pages = pages }

  of_source : (r : Record) → page.level ≡ 0 → AmongLeaves (leaves_of page.frag page.area) r → HasRecord after r
  of_source r level w = elim (share.forth r w) [
    | inl k ↦ in_file after x.source source r (ap if_live parted.source_now) (parts.level ∙ level) k
    | inr k ↦ in_file after x.fresh fresh r (ap if_live parted.fresh_now) (parts.fresh_level ∙ level) k
  ]

  pub record_stays : (r : Record) → HasRecord s r → HasRecord after r
  record_stays r h = elim (cases_eq h.id x.source) [
    | inl is ↦
        let same : h.page ≡ page = same_Some h.page page (sym h.live ∙ ap (live_page s) is ∙ parted.live) in
        of_source r (ap (λ (q : LivePage). q.level) (sym same) ∙ h.level) (subst (λ (q : LivePage). AmongLeaves (leaves_of q.frag q.area) r) same (among_of s r h))
    | inr ne ↦ in_file after h.id h.page r (ap if_live (parted.others h.id ne (not_vacant s x.fresh h.id h.page parted.vacant h.live)) ∙ h.live) h.level (among_of s r h)
  ]

  pub record_was : (r : Record) → HasRecord after r → HasRecord s r
  record_was r h = elim (comes_from s x pages page source fresh allocates parted parts h.id h.page h.live) [
    | inl both ↦ elim both [
      | inl w ↦ in_file s x.source page r parted.live (sym parts.fresh_level ∙ ap (λ (q : LivePage). q.level) (sym w.1) ∙ h.level) (share.from_fresh r (subst (λ (q : LivePage). AmongLeaves (leaves_of q.frag q.area) r) w.1 (among_of after r h)))
      | inr w ↦ in_file s x.source page r parted.live (sym parts.level ∙ ap (λ (q : LivePage). q.level) (sym w.0) ∙ h.level) (share.from_source r (subst (λ (q : LivePage). AmongLeaves (leaves_of q.frag q.area) r) w.0 (among_of after r h)))
    ]
    | inr was ↦ in_file s h.id h.page r was h.level (among_of after r h)
  ]

-- a box that holds more points than another has an attribute, and so has a file with a page that is split
larger_has_some : (a b : Area) → volume b < volume a → 1 ≤ length a.lo
larger_has_some a b lt = some_of a.lo a.hi (volume b) (some_points b.lo b.hi) lt
  where
    some_of : (lo hi : List ℕ) (n : ℕ) → 0 < n → n < volume_between lo hi → 1 ≤ length lo
    some_of [] hi n some lt = absurd (omega (arith, some, lt))
    some_of (l ∷ lo) hi n some lt = omega arith

has_attributes : (s : FileState) (x : Extraction) (page source fresh : LivePage) → FitsFile s.meta page → ArePartsOf s.meta x.fresh page source fresh → 1 ≤ s.meta.k
has_attributes s x page source fresh made parts = let some = larger_has_some page.area fresh.area parts.smaller in let k = made.fits.attributes in omega (arith, some, k)

-- two sound files with the same records have the same contents
module _ (trees : TreeLaws) (space : SpaceLaws) (points : (a : Area) (p : List ℕ) → IsArea a → Holds a p → IsPoint p) (standing : RecordsAreContents) where
  has_body : (s : FileState) (r : Record) → IsSound s → 1 ≤ s.meta.k → s.meta.k ≤ KMAX → HasRecord s r → finite.get (contents_of s) r.key ≡ Some r.body
  has_body s r sound some few h =
      let at = stands_at trees points s r h (sound.well_made h.id h.page h.live) (pages_have_boxes trees space s h.id h.page sound some few h.live) in
      standing_is_contents trees space standing s r.key h.id h.page r sound at.point h.live at.stands

  body_stays : (s t : FileState) → IsSound t → 1 ≤ t.meta.k → t.meta.k ≤ KMAX → ((r : Record) → HasRecord s r → HasRecord t r) → (q body : List ℕ) → finite.get (contents_of s) q ≡ Some body → finite.get (contents_of t) q ≡ Some body
  body_stays s t sound some few stays q body e =
      let w = contents_stand s q body e in
      ap (finite.get (contents_of t)) (sym w.key) ∙ has_body t w.rec sound some few (stays w.rec w.has) ∙ ap (λ (b : List ℕ). Some b) w.value

  pub same_contents : (s t : FileState) → IsSound s → IsSound t → 1 ≤ s.meta.k → s.meta.k ≤ KMAX → t.meta.k ≡ s.meta.k → ((r : Record) → HasRecord s r → HasRecord t r) → ((r : Record) → HasRecord t r → HasRecord s r) → contents_of t ≡ contents_of s
  same_contents s t sound sound' some few k stays was = finite.same_map nat_list_cmp_total exact_points (contents_of t) (contents_of s) (λ q.
      same_options (finite.get (contents_of t) q) (finite.get (contents_of s) q)
      (body_stays t s sound some few was q)
      (body_stays s t sound' (subst (λ (n : ℕ). 1 ≤ n) (sym k) some) (subst (λ (n : ℕ). n ≤ KMAX) (sym k) few) stays q))

  split_keeps_contents : PartLaws → (s : FileState) (x : Extraction) → IsSound s → s.meta.k ≤ KMAX → MayExtract s x → LicensesExtraction s x → contents_of (effect_of s (split_of x)) ≡ contents_of s
  split_keeps_contents laws s x sound few may licensed =
      let parts = parts_of laws s.meta x may.page may.part may.made may.fits in
      let source = source_page x may.page may.part in
      let fresh = fresh_page x may.page may.part in
      let parted = is_parted s x may.page source fresh sound.rooted.numbered may.allocates licensed may.live in
      let after = parted_file s x may.page source fresh sound.rooted.numbered may.allocates licensed may.live in
      let some = has_attributes s x may.page source fresh may.made parts in
      let share = share_records laws s.meta x may.page may.part may.made may.fits in
      let is = extracted_so s x may.page may.part may.live may.fits in
      let sound' : IsSound after = subst IsSound is (split_sound trees laws s x sound may licensed) in
      ap contents_of is
      ∙ same_contents s after sound sound' some few refl
      (record_stays s x after.pages may.page source fresh may.allocates parted parts share)
      (record_was s x after.pages may.page source fresh may.allocates parted parts share)

  pub splits_keep_contents : PartLaws → SplitsKeepContents
  splits_keep_contents laws s source fresh path cuts free_after sound few allowed licensed =
      let x = with_fields source fresh path cuts free_after in
      split_keeps_contents laws s x sound few (may_extract s x allowed) licensed
