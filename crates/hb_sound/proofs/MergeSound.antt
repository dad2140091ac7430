-- A merge leaves a sound file sound: what it makes is well made, and each child leaf afterwards lies in the box of the page that it names.
use Rattle.std.proofs.Common.{◌≡◌, ◌≢◌, ℕ, zero, suc, ◌+◌, inl, inr, List, [], ◌∷◌, length, Some, refl, sym, ap, subst, ◌∙◌, arith}
use Rattle.std.specs.List.{All, Contains}
use Rattle.std.proofs.lemmas.List.Elements.{All-contains}
use Rattle.hb_space.specs.Boxes.{Area, IsArea, Holds, Within}
use Rattle.hb_space.proofs.Facts.Boxes.{Holds-within, hi_held, lo_held}
use Rattle.hb_frag.specs.declared.leaves.Leaf.TheVariants.{Child, Sibling}
use Rattle.hb_frag.specs.declared.pages.LivePage.{LivePage}
use Rattle.hb_frag.specs.declared.pages.Page.{Page}
use Rattle.hb_frag.specs.declared.pages.Page.TheVariants.{Live, Free}
use Rattle.hb_frag.specs.Leaves.{Placed, leaves_of}
use Rattle.hb_frag.proofs.Facts.CarvedKinds.{some_weight}
use Rattle.hb_ops.specs.declared.operations.Op.TheVariants.{Merge}
use Rattle.hb_ops.specs.Files.{FileState, if_live, live_page}
use Rattle.hb_ops.specs.LawsOfContents.{IsWellIn}
use Rattle.hb_ops.specs.Merging.{released}
use Rattle.hb_ops.specs.Operations.{effect_of}
use Rattle.hb_ops.specs.Settled.{HasChild}
use Rattle.hb_ops.specs.Sound.{AreWellMade, ChildrenMatch, FitsFile, IsSound, HasBelow}
use Rattle.hb_ops.proofs.Facts.PlacedLaws.{placed, sibling_is_leaf}
use Rattle.hb_sound.specs.Laws.{SpaceLaws, TreeLaws}
use Rattle.hb_sound.specs.LawsOfMerges.{MergesKeepSound}
use Rattle.hb_sound.specs.LawsOfOperations.{MayBeDone}
use Rattle.hb_sound.proofs.MergedFile.{OtherPage, above_now, after as merged_file, comes_from, counted_again, covered_again, found, kept_now, named_gone, rooted_again, same_level, siblings_match, stays_live}
use Rattle.hb_sound.proofs.MergedLeaves.{MergeLaws, NamesChild, child_from, kept_so, parent_child_from}
use Rattle.hb_sound.proofs.Facts.MergedPages.{is_joined, joins, merged_so, Joins}
use Rattle.hb_sound.proofs.OneParent.{no_other_parent}
use Rattle.hb_sound.proofs.Partition.{pages_have_boxes}
use Rattle.hb_sound.proofs.PostedPage.{capacity_above}
use Rattle.hb_sound.proofs.PostSound.{within_by_corners}
use Rattle.hb_lemmas.proofs.Options.{one_value}

module _ (trees : TreeLaws) (space : SpaceLaws) (laws : MergeLaws) (s : FileState) (parent keep gone : ℕ) (done : MayBeDone s (Merge parent keep gone)) where
  may : Joins s parent keep gone
  may = joins s parent keep gone done.allowed

  sound : IsSound s
  sound = done.sound

  abbrev after : FileState
  after = merged_file trees laws s parent keep gone may sound

  abbrev above : LivePage
  above = above_now trees laws s parent keep gone may sound

  abbrev kept : LivePage
  kept = kept_now trees laws s parent keep gone may sound

  -- ---- what is made

  abbrev changed : List (ℕ × Page)
  changed = (parent, Live above) ∷ (keep, Live kept) ∷ (gone, Free s.meta.free) ∷ []

  all_made : All (λ (c : ℕ × Page). IsWellIn (released s.meta gone) c.1) changed
  all_made =
      let level = may.fits.pages.gone_level in
      let light = may.fits.pages.above_made.filled.light in
      let room = capacity_above may.above.level s.meta.dcap s.meta.icap (omega (arith, level)) in
      let some = some_weight may.above.frag in
      let lower = may.fits.pages.above_made.fits.level in
      laws.well (Merge parent keep gone) s.meta (Some may.above) (Some may.kept) (Some may.going) (omega (arith, light, room, some)) (omega (arith, lower)) tt may.fits
      (found trees laws s parent keep gone may sound)

  above_made : FitsFile s.meta above
  above_made = All-contains (λ (c : ℕ × Page). IsWellIn (released s.meta gone) c.1) changed (parent, Live above) all_made (zero, omega arith, refl)

  kept_made : FitsFile s.meta kept
  kept_made = All-contains (λ (c : ℕ × Page). IsWellIn (released s.meta gone) c.1) changed (keep, Live kept) all_made (suc zero, omega arith, refl)

  made_again : AreWellMade after
  made_again id new live = elim (comes_from trees laws s parent keep gone may sound id new live) [
    | inl w ↦ subst (FitsFile s.meta) w.1 above_made
    | inr other ↦ elim other [
      | inl w ↦ subst (FitsFile s.meta) w.1 kept_made
      | inr w ↦ sound.well_made id new w.live
    ]
  ]

  -- ---- child leaves

  box_of : (id : ℕ) (page : LivePage) → live_page s id ≡ Some page → IsArea page.area
  box_of id page live = pages_have_boxes trees space s id page sound done.some_attributes done.few_attributes live

  attributes_of : (id : ℕ) (page : LivePage) → live_page s id ≡ Some page → length page.area.lo ≡ s.meta.k
  attributes_of id page live = (sound.well_made id page live).fits.attributes

  -- a page in use afterwards, one level down, whose box has the point
  record HoldsBelow (height name : ℕ) (p : List ℕ) : Type 0 where
    named : LivePage
    there : live_page after name ≡ Some named
    level : named.level + 1 ≡ height
    inside : Holds named.area p

  -- what a page of before names at a point holds it, where it isn't the page that went
  below_at : (by : ℕ) (page : LivePage) (name : ℕ) (p : List ℕ) → live_page s by ≡ Some page → name ≢ gone → NamesChild page name p → HoldsBelow page.level name p
  below_at by page name p live ne w =
      let m = sound.children by page name w.area live w.has in
      let again = stays_live trees laws s parent keep gone may sound name m.0 m.1 ne in
      let long : length w.area.lo ≡ length page.area.lo = All-contains (λ (l : Placed). length l.area.lo ≡ length page.area.lo) (leaves_of page.frag page.area) (placed (Child name) w.area) (trees.attributes page.frag page.area) w.has in
      let inside : Holds m.0.area p = Holds-within w.area m.0.area p (long ∙ attributes_of by page live ∙ sym (attributes_of name m.0 m.1)) m.3 w.held in
      record {
        named = again.new;
        there = again.live;
        level = ap (λ (k : ℕ). k + 1) again.level ∙ m.2;
        inside = subst (λ (a : Area). Holds a p) (sym again.area) inside;
      }

  -- the page that went lay in the page to keep
  inside_kept : (p : List ℕ) → Holds may.going.area p → Holds may.kept.area p
  inside_kept p held =
      let leaf : Placed = placed (Sibling gone) may.going.area in
      let has = sibling_is_leaf (leaves_of may.kept.frag may.kept.area) gone may.going.area (named_gone trees laws s parent keep gone may sound) in
      let within : Within may.going.area may.kept.area = All-contains (λ (l : Placed). Within l.area may.kept.area) (leaves_of may.kept.frag may.kept.area) leaf
      (trees.within may.kept.frag may.kept.area (box_of keep may.kept may.kept_live) may.fits.pages.kept_made.well_cut) has in
      Holds-within may.going.area may.kept.area p (attributes_of gone may.going may.gone_live ∙ sym (attributes_of keep may.kept may.kept_live)) within held

  -- so the page to keep holds what the page that went did
  below_kept : (p : List ℕ) → NamesChild may.above gone p → HoldsBelow may.above.level keep p
  below_kept p w =
      let m = sound.children parent may.above gone w.area may.above_live w.has in
      let same : m.0 ≡ may.going = one_value (live_page s gone) m.0 may.going m.1 may.gone_live in
      let long : length w.area.lo ≡ length may.above.area.lo =
      All-contains (λ (l : Placed). length l.area.lo ≡ length may.above.area.lo) (leaves_of may.above.frag may.above.area) (placed (Child gone) w.area) (trees.attributes may.above.frag may.above.area) w.has in
      let inside : Holds m.0.area p = Holds-within w.area m.0.area p (long ∙ attributes_of parent may.above may.above_live ∙ sym (attributes_of gone m.0 m.1)) m.3 w.held in
      record {
        named = kept;
        there = ap if_live (is_joined s parent keep gone may).keep_now;
        level = may.fits.pages.kept_level;
        inside = inside_kept p (subst (λ (q : LivePage). Holds q.area p) same inside);
      }

  above_at : (name : ℕ) (a : Area) (p : List ℕ) → Contains (leaves_of above.frag above.area) (placed (Child name) a) → Holds a p → HoldsBelow may.above.level name p
  above_at name a p has held =
      let w = parent_child_from trees laws keep gone may.above (box_of parent may.above may.above_live) may.fits.pages.above_made.well_cut name a p has held in
      elim w.2 [
        | inl is ↦ subst (λ (n : ℕ). HoldsBelow may.above.level n p) (sym is.1) (below_kept p (subst (λ (n : ℕ). NamesChild may.above n p) is.0 w.1))
        | inr ne ↦ subst (λ (n : ℕ). HoldsBelow may.above.level n p) (sym ne.1) (below_at parent may.above w.0 p may.above_live ne.0 w.1)
      ]

  -- a page of the level of the page that went doesn't name that one as a child
  not_down : (by : ℕ) (page : LivePage) (name : ℕ) (p : List ℕ) → live_page s by ≡ Some page → page.level ≡ may.going.level → NamesChild page name p → name ≢ gone
  not_down by page name p live level w is =
      let m = sound.children by page name w.area live w.has in
      let same : m.0 ≡ may.going = one_value (live_page s gone) m.0 may.going (ap (live_page s) (sym is) ∙ m.1) may.gone_live in
      let at = ap (λ (q : LivePage). q.level) same in
      let down = m.2 in
      absurd (omega (arith, level, at, down))

  kept_at : (name : ℕ) (a : Area) (p : List ℕ) → Contains (leaves_of kept.frag kept.area) (placed (Child name) a) → Holds a p → HoldsBelow may.kept.level name p
  kept_at name a p has held =
      let same = same_level trees laws s parent keep gone may sound in
      let so = kept_so trees laws gone may.kept may.going (found trees laws s parent keep gone may sound) in
      let there = subst (λ (q : LivePage). Contains (leaves_of q.frag q.area) (placed (Child name) a)) so has in
      elim (child_from trees laws gone may.kept may.going (found trees laws s parent keep gone may sound) (box_of keep may.kept may.kept_live) may.fits.pages.kept_made.well_cut may.fits.pages.gone_made.well_cut name a p there held) [
        | inl w ↦ below_at keep may.kept name p may.kept_live (not_down keep may.kept name p may.kept_live (sym same) w) w
        | inr w ↦ subst (λ (level : ℕ). HoldsBelow level name p) same (below_at gone may.going name p may.gone_live (not_down gone may.going name p may.gone_live refl w) w)
      ]

  -- a box both of whose corners are held by the page that is named lies in that page's box
  by_corners : (height name : ℕ) (a : Area) → IsArea a → ((p : List ℕ) → Holds a p → HoldsBelow height name p) → HasBelow after height name a
  by_corners height name a box holds =
      let low = holds a.lo (lo_held a box) in
      let high = holds a.hi (hi_held a box) in
      let same : high.named ≡ low.named = one_value (live_page after name) high.named low.named high.there low.there in
      (low.named, low.there, low.level, within_by_corners a low.named.area box low.inside (subst (λ (q : LivePage). Holds q.area a.hi) same high.inside))

  leaf_box : (page : LivePage) (name : ℕ) (a : Area) → IsArea page.area → FitsFile s.meta page → Contains (leaves_of page.frag page.area) (placed (Child name) a) → IsArea a
  leaf_box page name a box made has = All-contains (λ (l : Placed). IsArea l.area) (leaves_of page.frag page.area) (placed (Child name) a) (trees.areas page.frag page.area box made.well_cut) has

  above_children : (name : ℕ) (a : Area) → HasChild above name a → HasBelow after above.level name a
  above_children name a has = by_corners may.above.level name a (leaf_box above name a (box_of parent may.above may.above_live) above_made has) (λ p held. above_at name a p has held)

  kept_children : (name : ℕ) (a : Area) → HasChild kept name a → HasBelow after kept.level name a
  kept_children name a has = by_corners may.kept.level name a (leaf_box kept name a (box_of keep may.kept may.kept_live) kept_made has) (λ p held. kept_at name a p has held)

  -- no other page is a parent of the page that went
  other_children : (id : ℕ) (page : LivePage) (name : ℕ) (a : Area) → OtherPage trees laws s parent keep gone may sound id page → HasChild page name a → HasBelow after page.level name a
  other_children id page name a w has =
      let m = sound.children id page name a w.live has in
      let ne : name ≢ gone = λ is. w.not_parent (no_other_parent trees space s gone parent id may.going may.above page a sound done.some_attributes done.few_attributes
      may.gone_live may.above_live may.fits.pages.gone_level may.fits.may.whole w.live (subst (λ (n : ℕ). HasChild page n a) is has)) in
      let again = stays_live trees laws s parent keep gone may sound name m.0 m.1 ne in
      (again.new, again.live, ap (λ (k : ℕ). k + 1) again.level ∙ m.2, subst (λ (b : Area). Within a b) (sym again.area) m.3)

  children_match : ChildrenMatch after
  children_match id new name a live has = elim (comes_from trees laws s parent keep gone may sound id new live) [
    | inl w ↦ subst (λ (q : LivePage). HasChild q name a → HasBelow after q.level name a) w.1 (above_children name a) has
    | inr other ↦ elim other [
      | inl w ↦ subst (λ (q : LivePage). HasChild q name a → HasBelow after q.level name a) w.1 (kept_children name a) has
      | inr w ↦ other_children id new name a w has
    ]
  ]

  pub merge_sound : IsSound (effect_of s (Merge parent keep gone))
  merge_sound = subst IsSound (sym (merged_so s parent keep gone may)) (record {
    rooted = rooted_again trees laws s parent keep gone may sound;
    counted = counted_again trees laws s parent keep gone may sound;
    well_made = made_again;
    siblings = siblings_match trees laws s parent keep gone may sound;
    children = children_match;
    covered = covered_again trees laws s parent keep gone may sound;
  })

pub merges_keep_sound : TreeLaws → SpaceLaws → MergeLaws → MergesKeepSound
merges_keep_sound trees space laws s parent keep gone may = merge_sound trees space laws s parent keep gone may
