-- A growth leaves the contents as they are, and what each page of before directly holds.
use Rattle.std.proofs.Common.{◌≡◌, ◌≢◌, ℕ, zero, suc, inl, inr, Bool, cond, List, [], ◌∷◌, ◌++◌, length, flat_map, map, set, slice_get, Some, refl, sym, ap, ◌∙◌, arith, ne_eqb}
use Rattle.std.specs.FinMap as finite
use Rattle.std.proofs.lemmas.Bool.{cases_eq}
use Rattle.std.proofs.lemmas.Grind.{flat_map-append}
use Rattle.std.proofs.lemmas.List.{append-nil}
use Rattle.hb_space.specs.Boxes.{Holds}
use Rattle.hb_space.specs.Points.{point_cmp}
use Rattle.hb_space.specs.declared.records.Record.{Record}
use Rattle.hb_frag.specs.Leaves.{leaves, records_of}
use Rattle.hb_frag.specs.declared.pages.LivePage.{LivePage}
use Rattle.hb_frag.specs.declared.pages.Page.{Page}
use Rattle.hb_frag.specs.declared.pages.Page.TheVariants.{Live, Free}
use Rattle.hb_ops.specs.Files.{FileState, file_records, if_live, page_records}
use Rattle.hb_ops.specs.Operations.{with_page}
use Rattle.hb_ops.specs.Sound.{IsSound}
use Rattle.hb_ops.proofs.Facts.PageNumberLaws.{place_of, with_page-behind, with_page-there}
use Rattle.hb_sound.specs.Laws.{SpaceLaws}
use Rattle.hb_sound.proofs.Growths.{Growth, LicensesGrowth, MayGrow, growth, grown}
use Rattle.hb_sound.specs.LawsOfOperations.{GrowthKeepsContents, GrowthKeepsDirect}
use Rattle.hb_ops.specs.Allocating.{new_root}
use Rattle.std.proofs.lemmas.List.Elements.{All-from_recursion}
use Rattle.hb_sound.proofs.FileGrown.{comes_from, is_grown, stays_live}
use Rattle.std.proofs.lemmas.Option.{same_Some, slice_get_within}

-- a page in place of one with the same records
pub records-set : (pages : List Page) (n : ℕ) (was now : Page) → slice_get pages n ≡ Some was → page_records now ≡ page_records was → flat_map page_records (set pages n now) ≡ flat_map page_records pages
records-set [] n was now e same = refl
records-set (q ∷ rest) zero was now e same = ap (λ (xs : List Record). xs ++ flat_map page_records rest) (same ∙ ap page_records (sym (same_Some q was e)))
records-set (q ∷ rest) (suc n) was now e same = ap (λ (xs : List Record). page_records q ++ xs) (records-set rest n was now e same)

module _ (s : FileState) (x : Growth) (sound : IsSound s) (may : MayGrow s x) (licensed : LicensesGrowth s x) where
  abbrev new : Page
  new = Live (new_root s.meta)

  -- the new root stands above the ground and so has no record
  no_records : page_records new ≡ []
  no_records =
      let above : s.meta.height ≢ 0 = λ e. let top = sound.rooted.top.2 in absurd (omega (arith, top, e)) in
      ap (λ (b : Bool). cond b (flat_map records_of (leaves (new_root s.meta).frag)) []) (ne_eqb s.meta.height 0 above)

  same_records : file_records (grown s x) ≡ file_records s
  same_records = elim (cases_eq s.meta.free 0) [
    | inl none ↦
        let behind : x.fresh ≡ suc (length s.pages) = omega (arith, (may.allocates.from_behind none).0, sound.rooted.numbered) in
        ap (λ (m : ℕ). flat_map page_records (with_page m new s.pages)) behind
        ∙ ap (flat_map page_records) (with_page-behind s.pages new)
        ∙ flat_map-append page_records s.pages (new ∷ [])
        ∙ ap (λ (xs : List Record). flat_map page_records s.pages ++ (xs ++ [])) no_records
        ∙ append-nil (flat_map page_records s.pages)
    | inr some ↦
        let here = place_of s.pages x.fresh (Free x.free_after) (licensed some) in
        ap (λ (m : ℕ). flat_map page_records (with_page m new s.pages)) here.1
        ∙ ap (flat_map page_records) (with_page-there s.pages here.0 new (slice_get_within s.pages here.0 (Free x.free_after) here.2))
        ∙ records-set s.pages here.0 (Free x.free_after) new here.2 no_records
  ]

abbrev pub contents_from : List Record → finite.FinMap point_cmp (List ℕ)
contents_from records = finite.from_entries (map (λ r. (r.key, r.body)) records)

pub growth_keeps_contents : GrowthKeepsContents
growth_keeps_contents s fresh free_after sound may licensed = ap contents_from (same_records s (growth fresh free_after) sound may licensed)

pub growth_keeps_direct : SpaceLaws → GrowthKeepsDirect
growth_keeps_direct space s fresh free_after p sound point may licensed =
    let x = growth fresh free_after in
    let grew = is_grown s x sound may licensed in
    record {
      below = λ level id lt. (
        λ has. record { page = has.page; live = stays_live s x grew id has.page has.live; on = has.on; direct = has.direct },
        λ has. elim (comes_from s x grew id has.page has.live) [
          | inl w ↦ let level_is = ap (λ (q : LivePage). q.level) w.1 in absurd (omega (arith, lt, level_is, has.on))
          | inr was ↦ record { page = has.page; live = was; on = has.on; direct = has.direct }
        ],
      );
      above = record {
        page = new_root s.meta;
        live = ap if_live grew.there;
        on = refl;
        direct = record { inside = space.points s.meta.k p point.point point.attributes; not_given = All-from_recursion (λ s. ¬ (Holds s.1 p)) [] tt };
      };
    }
