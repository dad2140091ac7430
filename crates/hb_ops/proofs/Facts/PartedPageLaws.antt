-- A page that is split: the page that is made and the one that stays are well made.
use Rattle.std.proofs.Common.{◌≡◌, ℕ, ◌≤◌, inl, inr, List, [], ◌∷◌, refl, sym, ap, subst, ◌∙◌, arith}
use Rattle.std.specs.List.{Contains}
use Rattle.hb_space.specs.Boxes.{Area}
use Rattle.hb_frag.specs.declared.leaves.Leaf.TheVariants.{Sibling}
use Rattle.hb_frag.specs.declared.pages.LivePage.{LivePage}
use Rattle.hb_frag.specs.declared.paths.Side.{Side}
use Rattle.hb_frag.specs.Trees.{Tree, Tip}
use Rattle.hb_frag.specs.Leaves.{Placed, leaves_of, weight_of}
use Rattle.hb_frag.specs.Paths.{part_at, with_part}
use Rattle.hb_frag.specs.Rules.{BelongsAt, IsInOrder, IsSiblingTip}
use Rattle.hb_frag.proofs.Facts.CarvedKinds.{some_weight}
use Rattle.hb_layout.specs.declared.meta.Meta.{Meta}
use Rattle.hb_ops.specs.Sound.{FitsFile}
use Rattle.hb_ops.specs.Extracting.{FitsPart, fresh_page, source_page}
use Rattle.hb_ops.specs.declared.leaf_cuts.LeafCut.{LeafCut}
use Rattle.hb_ops.specs.Cutting.{cut_through}
use Rattle.hb_ops.proofs.Facts.CutLeafLaws.{reached_attributes, reached_well_cut, through_well_cut}
use Rattle.hb_ops.proofs.Facts.CutShapeLaws.{not_lone_end, reached_normal, reached_weighs, through_like_none, through_normal, through_weighs}
use Rattle.hb_ops.proofs.Facts.PathLaws.{not_lone_again, normal_again, part_has, well_cut_again}
use Rattle.hb_lemmas.proofs.Lists.{each_member}
use Rattle.hb_ops.proofs.Facts.PlacedLaws.{each_leaf}
use Rattle.hb_ops.proofs.Facts.StemLaws.{PartLaws, fresh_stems, sibling_in_order, source_stems, stems_belong, stems_in_order}

-- the page that is split, and both pages that come of it
module _ (laws : PartLaws) (meta : Meta) (fresh_id : ℕ) (path : List Side) (cuts : List LeafCut) (page : LivePage) (part : Tree × Area) (made : FitsFile meta page) (fits : FitsPart path cuts page part) where
  abbrev pub old : List Placed
  old = leaves_of page.frag page.area

  abbrev pub fresh : LivePage
  fresh = fresh_page cuts page part

  -- a part is no heavier than the page
  part_light : weight_of part.0 ≤ weight_of page.frag
  part_light =
      let w = laws.weight path page.frag page.area part (Tip (Sibling 0)) fits.there in
      let some = some_weight (with_part path page.frag (Tip (Sibling 0))) in
      let one : weight_of (Tip (Sibling 0)) ≡ 1 = refl in
      omega (arith, w, some, one)

  -- the page that is made is well made
  pub fresh_made : FitsFile meta fresh
  fresh_made =
      let has = part_has path page.frag page.area part fits.there made.well_cut made.normal in
      let weighs = reached_weighs cuts part.0 part.1 fits.parted in
      record {
        fits = record { level = made.fits.level; attributes = reached_attributes cuts part.0 part.1 ∙ has.attributes ∙ made.fits.attributes };
        well_cut = reached_well_cut cuts part.0 part.1 fits.parted has.well_cut;
        filled = record {
          kinds = each_leaf (BelongsAt page.level) fresh.frag fresh.area (λ y there. stems_belong page.level page.frag page.area made.filled.kinds y (fresh_stems laws fresh_id path cuts page part fits y there));
          light = omega (arith, weighs, part_light, made.filled.light);
          own = fits.own;
        };
        in_order = each_member IsInOrder (leaves_of fresh.frag fresh.area) (λ y there. stems_in_order old made.in_order y (fresh_stems laws fresh_id path cuts page part fits y there));
        normal = reached_normal cuts part.0 part.1 has.normal;
      }

  -- what stays isn't a lone sibling leaf
  not_lone : IsSiblingTip (source_page fresh_id path cuts page part).frag → ⊥
  not_lone = by_path path refl
    where
      by_path : (steps : List Side) → path ≡ steps → IsSiblingTip (source_page fresh_id path cuts page part).frag → ⊥
      by_path [] is lone = not_lone_end fresh_id cuts part.0 (fits.less is) (subst (λ (p : List Side). IsSiblingTip (with_part p page.frag (cut_through cuts part.0 (Tip (Sibling fresh_id))))) is lone)
      by_path (side ∷ rest) is lone = not_lone_again side rest page.frag page.area part (cut_through cuts part.0 (Tip (Sibling fresh_id))) (ap (λ (p : List Side). part_at p page.frag page.area) (sym is) ∙ fits.there) (subst (λ (p : List Side). IsSiblingTip (with_part p page.frag (cut_through cuts part.0 (Tip (Sibling fresh_id))))) is lone)

  source_belongs : (y : Placed) → Contains (leaves_of (source_page fresh_id path cuts page part).frag (source_page fresh_id path cuts page part).area) y → BelongsAt page.level y.leaf
  source_belongs y there = elim (source_stems laws fresh_id path cuts page part fits y there) [
    | inl is ↦ subst (λ (l : Placed). BelongsAt page.level l.leaf) is tt
    | inr stems ↦ stems_belong page.level page.frag page.area made.filled.kinds y stems
  ]

  source_in_order : (y : Placed) → Contains (leaves_of (source_page fresh_id path cuts page part).frag (source_page fresh_id path cuts page part).area) y → IsInOrder y
  source_in_order y there = elim (source_stems laws fresh_id path cuts page part fits y there) [
    | inl is ↦ subst IsInOrder is (sibling_in_order fresh_id fresh.area)
    | inr stems ↦ stems_in_order old made.in_order y stems
  ]

  -- the page that stays is well made
  pub source_made : FitsFile meta (source_page fresh_id path cuts page part)
  source_made =
      let has = part_has path page.frag page.area part fits.there made.well_cut made.normal in
      let weighs = through_weighs fresh_id cuts part.0 part.1 fits.parted in
      let w = laws.weight path page.frag page.area part (cut_through cuts part.0 (Tip (Sibling fresh_id))) fits.there in
      record {
        fits = record { level = made.fits.level; attributes = made.fits.attributes };
        well_cut = well_cut_again path page.frag page.area part (cut_through cuts part.0 (Tip (Sibling fresh_id))) fits.there made.well_cut (through_well_cut fresh_id cuts part.0 part.1 fits.parted);
        filled = record {
          kinds = each_leaf (BelongsAt page.level) (source_page fresh_id path cuts page part).frag (source_page fresh_id path cuts page part).area source_belongs;
          light = omega (arith, weighs, w, made.filled.light);
          own = not_lone;
        };
        in_order = each_member IsInOrder (leaves_of (source_page fresh_id path cuts page part).frag (source_page fresh_id path cuts page part).area) source_in_order;
        normal = normal_again path page.frag page.area part (cut_through cuts part.0 (Tip (Sibling fresh_id))) fits.there made.normal (through_like_none fresh_id cuts part.0) (through_normal fresh_id cuts part.0);
      }
