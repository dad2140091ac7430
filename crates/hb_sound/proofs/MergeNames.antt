-- What a merge makes of the names in the parent: the page to keep stands where the page to go stood.
use Rattle.std.proofs.Common.{◌≡◌, ℕ, ◌+◌, ◌<◌, true, false, cond, List, [], ◌∷◌, map, Some, refl, sym, ap, subst, ◌∙◌, arith}
use Rattle.std.specs.Option.{option_map}
use Rattle.std.proofs.lemmas.List.Elements.{All-contains}
use Rattle.hb_lemmas.proofs.Options.{one_value, some_value}
use Rattle.hb_ops.proofs.Facts.MergeMade.{renamed_kind}
use Rattle.hb_space.specs.Boxes.{IsArea, Holds, holds}
use Rattle.hb_frag.specs.declared.pages.LivePage.{LivePage}
use Rattle.hb_frag.specs.Leaves.{IsWellCut, Placed, first_at, leaf_at, leaves, leaves_of}
use Rattle.hb_frag.specs.NormalLaws.{KeepsPoint}
use Rattle.hb_frag.specs.Renaming.{renamed, renamed_leaf, renamed_place}
use Rattle.hb_frag.specs.Rules.{BelongsAt}
use Rattle.hb_frag.specs.Trees.{Tree}
use Rattle.hb_ops.specs.Merging.{parent_page}
use Rattle.hb_ops.specs.Sound.{FitsFile}
use Rattle.hb_layout.specs.declared.meta.Meta.{Meta}
use Rattle.hb_sound.specs.Laws.{SpaceLaws, TreeLaws}
use Rattle.hb_sound.specs.LawsOfMerges.{MergesChangeThree, MergesKeepSound, MergesRename, RenamesAt}
use Rattle.hb_sound.proofs.DoneMerges.{merged}
use Rattle.hb_sound.proofs.MergedLeaves.{MergeLaws}
use Rattle.hb_sound.proofs.Partition.{pages_have_boxes}
use Rattle.hb_sound.proofs.PostedPage.{kept_same}
use Rattle.hb_ops.proofs.Facts.PlacedLaws.{placed_is_leaf}
use Rattle.hb_ops.specs.Files.{live_page}

-- the leaf at a point, with its new name
first_renamed : (old new : ℕ) (p : List ℕ) (xs : List Placed) → first_at p (map (renamed_place old new) xs) ≡ option_map (renamed_place old new) (first_at p xs)
first_renamed old new p [] = refl
first_renamed old new p (x ∷ xs) =
    elim (holds x.area p) as (λ b. cond b (Some (renamed_place old new x)) (first_at p (map (renamed_place old new) xs)) ≡ option_map (renamed_place old new) (cond b (Some x) (first_at p xs))) [
      | true ↦ refl
      | false ↦ first_renamed old new p xs
    ]

module _ (trees : TreeLaws) (laws : MergeLaws) (meta : Meta) (keep gone : ℕ) (above : LivePage) (made : FitsFile meta above) (high : 0 < above.level) (box : IsArea above.area) (p : List ℕ) (held : Holds above.area p) where
  abbrev between : Tree
  between = renamed gone keep above.frag

  before : (x : Placed) × (leaf_at above p ≡ Some x)
  before = some_value (leaf_at above p) ((trees.some above.frag above.area p box made.well_cut).1 held)

  well_cut : IsWellCut between above.area
  well_cut = ((laws.renames gone keep above.frag).cuts above.area).1 made.well_cut

  keeps : KeepsPoint p (leaves_of between above.area) (leaves_of (parent_page keep gone above).frag above.area)
  keeps = (laws.same between).points above.area p box well_cut held

  mid_is : keeps.before ≡ renamed_place gone keep before.0
  mid_is = one_value (first_at p (leaves_of between above.area)) keeps.before (renamed_place gone keep before.0) keeps.old_leaf
      (ap (first_at p) ((laws.renames gone keep above.frag).leaves above.area) ∙ first_renamed gone keep p (leaves_of above.frag above.area) ∙ ap (option_map (renamed_place gone keep)) before.1)

  name_is : keeps.before.leaf ≡ renamed_leaf gone keep before.0.leaf
  name_is = ap (λ (l : Placed). l.leaf) mid_is

  belongs : BelongsAt above.level keeps.before.leaf
  belongs =
      let there = (trees.only above.frag above.area p before.0 box made.well_cut).0 before.1 in
      let was = All-contains (BelongsAt above.level) (leaves above.frag) before.0.leaf made.filled.kinds (placed_is_leaf above.frag above.area before.0 there.0) in
      subst (BelongsAt above.level) (sym name_is) (renamed_kind gone keep above.level before.0.leaf was)

  pub renames_at : RenamesAt above (parent_page keep gone above) keep gone p
  renames_at = record {
    before = before.0;
    after = keeps.after;
    was = before.1;
    now = keeps.new_leaf;
    name = kept_same above.level high keeps.before.leaf keeps.after.leaf belongs keeps.kept ∙ name_is;
  }

pub merges_rename : TreeLaws → SpaceLaws → MergeLaws → MergesKeepSound → MergesChangeThree → MergesRename
merges_rename trees space laws sound changes s parent keep gone above p may live held =
    let m = merged sound changes s parent keep gone may in
    let same : m.changes.above ≡ above = one_value (live_page s parent) m.changes.above above m.changes.above_live live in
    let level : m.changes.kept.level + 1 ≡ above.level = m.fits.pages.kept_level ∙ ap (λ (q : LivePage). q.level) same in
    renames_at trees laws s.meta keep gone above (may.sound.well_made parent above live) (omega (arith, level))
    (pages_have_boxes trees space s parent above may.sound may.some_attributes may.few_attributes live) p held
