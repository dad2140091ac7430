-- A consolidator that decides on a pair has the page to go at hand, with the box that the page to keep gave it.
use Rattle.hb_steps.proofs.Files.Names.{◌≡◌, ℕ, ◌-◌, Option, Some, None, IfSome, IsSome, refl, sym, ap, ◌∙◌, subst, LivePage, Exclusive, Job, Wanted, Activity, wanted_of, MergesPair, HasAskedBox, box_of_sibling, looked_live, this_box, wanted_by, Machine, live_here, with_disk, sight, IsAtHand, first_named, siblings_of, BoxesMatch, Area, StoreState}
use Rattle.std.proofs.Common.{option_map}
use Rattle.hb_ops.specs.declared.operations.Op.TheVariants as ops
use Rattle.hb_activity.specs.declared.activities.Activity.TheVariants as at
use Rattle.hb_steps.proofs.Table.MergerMoves.{of_page}
use Rattle.hb_steps.specs.AskedBoxes.{HasItsBox}
use Rattle.hb_steps.specs.Asking.{asked_box}

-- the page that it wants is the one to go, exclusively
pub decides_page : (m : Machine) (actor : ℕ) (job : Job) (parent keep gone : ℕ) (wanted : Wanted) → m.activity actor ≡ at.ConsolidatorDecide job parent keep gone → wanted_by m actor ≡ Some wanted → (wanted.page ≡ gone) × (wanted.mode ≡ Exclusive)
decides_page m actor job parent keep gone wanted is wants =
    let deciding : Activity = at.ConsolidatorDecide job parent keep gone in
    let so : wanted_of deciding m.store.meta (looked_live m.store deciding) ≡ Some wanted = subst (λ (a : Activity). wanted_of a m.store.meta (looked_live m.store a) ≡ Some wanted) is wants in
    of_page gone (λ (page : LivePage). page.level - 1) Exclusive (looked_live m.store deciding) wanted so

-- a page with the box of the leaf that names it
given_box : (kept : LivePage) (gone : ℕ) (area : Area) (o : Option Area) → first_named gone (siblings_of kept) ≡ o → IsSome (first_named gone (siblings_of kept)) → IfSome (box_of_sibling (Some kept) gone) (λ asked. HasAskedBox asked area) → first_named gone (siblings_of kept) ≡ Some area
given_box kept gone area None is some has = absurd (nothing (subst (λ (o : Option Area). IsSome o) is some))
  where
    none : Option Area
    none = None

    nothing : IsSome none → ⊥
    nothing never = cc
given_box kept gone area (Some box) is some has =
    let same : area ≡ box = subst (λ (o : Option Area). IfSome (option_map this_box o) (λ asked. HasAskedBox asked area)) is has in
    is ∙ ap (λ (a : Area). Some a) (sym same)

module _ (m : Machine) (actor : ℕ) (fetched : StoreState) (job : Job) (parent keep gone : ℕ) (wanted : Wanted) (page : LivePage) (pair : MergesPair (sight (with_disk fetched m.files m.clock m)) parent keep gone page) (is : m.activity actor ≡ at.ConsolidatorDecide job parent keep gone) (wants : wanted_by m actor ≡ Some wanted)
    (hand : IsAtHand (with_disk fetched m.files m.clock m) (m.activity actor) wanted page) where
  pub gone_live : live_here fetched gone ≡ Some page
  gone_live = ap (live_here fetched) (sym (decides_page m actor job parent keep gone wanted is wants).0) ∙ hand.live

  pub gone_box : first_named gone (siblings_of pair.kept) ≡ Some page.area
  gone_box =
      let deciding : Activity = at.ConsolidatorDecide job parent keep gone in
      let asked : HasItsBox (asked_box deciding fetched) page = subst (λ (a : Activity). HasItsBox (asked_box a fetched) page) is hand.box in
      let kept : HasItsBox (box_of_sibling (Some pair.kept) gone) page = subst (λ (o : Option LivePage). HasItsBox (box_of_sibling o gone) page) pair.kept_live asked in
      given_box pair.kept gone page.area (first_named gone (siblings_of pair.kept)) refl pair.may.given kept

  pub pair_boxes : BoxesMatch (ops.Merge parent keep gone) (live_here fetched parent) (live_here fetched keep) (live_here fetched gone)
  pair_boxes =
      let op = ops.Merge parent keep gone in
      let kept = subst (λ (o : Option LivePage). BoxesMatch op (live_here fetched parent) (Some pair.kept) o) (sym gone_live) gone_box in
      subst (λ (o : Option LivePage). BoxesMatch op (live_here fetched parent) o (live_here fetched gone)) (sym pair.kept_live) kept
