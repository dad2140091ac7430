-- A page whose whole box one page above directly holds has no other parent: the other one would directly hold a point of it too.
use Rattle.std.proofs.Common.{◌≡◌, ℕ, List, length, slice_index_or, Some, refl, sym, ap, subst, ◌∙◌, arith}
use Rattle.std.proofs.lemmas.List.Elements.{All-contains}
use Rattle.hb_space.specs.Boxes.{Area, IsArea, Holds, Within}
use Rattle.hb_frag.specs.declared.leaves.Leaf.TheVariants.{Child}
use Rattle.hb_frag.specs.declared.pages.LivePage.{LivePage}
use Rattle.hb_frag.specs.Leaves.{DirectlyCovers, DirectlyHolds, Placed, leaf_at, leaves_of, siblings_of}
use Rattle.hb_sound.specs.Laws.{SpaceLaws, TreeLaws, NoOtherParent}
use Rattle.hb_sound.specs.PointWalks.{IsPointOf}
use Rattle.hb_sound.proofs.HeldSomewhere.{holds_directly}
use Rattle.hb_sound.proofs.Facts.OneLevel.{holds_where_leaf, page_area}
use Rattle.hb_sound.proofs.Partition.{no_point_is_held_twice}
use Rattle.hb_ops.proofs.Facts.PlacedLaws.{placed}
use Rattle.hb_ops.specs.Files.{live_page}
use Rattle.hb_space.proofs.Facts.Boxes.{Holds-within, Meets-from_point, lo_held}
use Rattle.hb_lemmas.proofs.Options.{one_value}

-- a page that directly holds a box directly holds each point of it
directly_at : (page : LivePage) (a : Area) (p : List ℕ) → length a.lo ≡ length page.area.lo → DirectlyCovers page a → Holds a p → DirectlyHolds page p
directly_at page a p same covers held = record {
  inside = Holds-within a page.area p same covers.inside held;
  not_given = λ k d lt there. covers.not_given k d lt (Meets-from_point (slice_index_or (siblings_of page) k d).1 a p there held);
}

pub no_other_parent : TreeLaws → SpaceLaws → NoOtherParent
no_other_parent trees space s id parent other page above holder area sound some few live live_parent level covers live_other child =
    let whole = space.area s.meta.k some few in
    let box = page_area trees s sound.well_made sound.siblings sound.covered whole other holder live_other in
    let well = sound.well_made other holder live_other in
    let leaf : Placed = placed (Child id) area in
    let leaf_box : IsArea area = All-contains (λ (l : Placed). IsArea l.area) (leaves_of holder.frag holder.area) leaf (trees.areas holder.frag holder.area box well.well_cut) child in
    let as_many : length area.lo ≡ length holder.area.lo = All-contains (λ (l : Placed). length l.area.lo ≡ length holder.area.lo) (leaves_of holder.frag holder.area) leaf (trees.attributes holder.frag holder.area) child in
    let p = area.lo in
    let point : IsPointOf s p = record { point = leaf_box.lo_point; attributes = as_many ∙ well.fits.attributes } in
    let held = lo_held area leaf_box in
    let there : leaf_at holder p ≡ Some leaf = (trees.only holder.frag holder.area p leaf box well.well_cut).1 (child, held) in
    let inside = holds_where_leaf trees s sound.well_made sound.siblings sound.covered whole other holder p (Child id) area live_other there in
    let direct = holds_directly trees s sound.well_made sound.siblings sound.covered whole p other holder (Child id) area live_other inside there (λ name f. let no : ⊥ = cc in no) in
    let m = sound.children other holder id area live_other child in
    let named = one_value (live_page s id) m.0 page m.1 live in
    let within : Within area page.area = subst (λ (q : LivePage). Within area q.area) named m.3 in
    let fits = (sound.well_made id page live).fits.attributes in
    let of_page = Holds-within area page.area p (as_many ∙ well.fits.attributes ∙ sym fits) within held in
    let above_fits = (sound.well_made parent above live_parent).fits.attributes in
    let directly = directly_at above page.area p (fits ∙ sym above_fits) covers of_page in
    let below = m.2 in
    let height = ap (λ (q : LivePage). q.level) named in
    let on : holder.level ≡ above.level = omega (arith, below, height, level) in
    no_point_is_held_twice trees space s above.level p other parent sound point
    (record { page = holder; live = live_other; on = on; direct = direct })
    (record { page = above; live = live_parent; on = refl; direct = directly })
