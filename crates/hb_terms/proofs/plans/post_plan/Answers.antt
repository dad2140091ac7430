-- The plan where a page is owed a leaf of the parent.
use Rattle.std.proofs.Common.{refl}
use Rattle.hb_lemmas.proofs.Options.{on_err}
use Rattle.hb_frag.specs.Paths.{way_to}
use Rattle.hb_terms.proofs.Facts.Owing.{owed_there, plan_posts, plan_splits}
use Rattle.hb_terms.proofs.plans.post_plan.Goals as goal

pub returns-in_err-at-in-Some-clause-memory : goal.returns-in_err-at-in-Some-clause-memory
returns-in_err-at-in-Some-clause-memory c =
    let above = c.leaf_at-leaf_area.ensures in
    let owed = owed_there _ _ _ _ _ _ _ _ _ above.value c.child_of.ensures c.leaf_at-area.ensures.value c.in-Some.ensures in
    let posts = plan_posts c.args.parent.now c.args.child.now c.args.point.now c.child_of.result c.in-Some.inner c.args.icap _ _ above.area c.requires.parent_cut c.requires.parent_held owed c.requires.normal c.requires.light in
    on_err c.from_residual.result (way_to c.args.point.now c.args.parent.now.frag, c.in-Some.inner, c.leaf_at-area.result.1, posts (way_to c.args.point.now c.args.parent.now.frag) refl ((c.if-has_room.ensures c.child_of.result c.in-Some.inner).0 refl))

pub returns-in_ok-at-in-Some-clause-plan : goal.returns-in_ok-at-in-Some-clause-plan
returns-in_ok-at-in-Some-clause-plan c =
    let above = c.leaf_at-leaf_area.ensures in
    let owed = owed_there _ _ _ _ _ _ _ _ _ above.value c.child_of.ensures c.leaf_at-area.ensures.value c.in-Some.ensures in
    plan_posts _ _ _ _ _ c.args.icap _ _ above.area c.requires.parent_cut c.requires.parent_held owed c.requires.normal c.requires.light c.in_ok-at-in-Some.at c.in_ok-at-in-Some.ensures.way ((c.if-has_room.ensures c.child_of.result c.in-Some.inner).0 refl)

pub returns-else-has_room-clause-plan : goal.returns-else-has_room-clause-plan
returns-else-has_room-clause-plan c =
    let above = c.leaf_at-leaf_area.ensures in
    let owed = owed_there _ _ _ _ _ _ _ _ _ above.value c.child_of.ensures c.leaf_at-area.ensures.value c.in-Some.ensures in
    plan_splits _ _ _ _ _ c.args.icap _ _ above.area c.requires.parent_cut c.requires.parent_held owed c.requires.normal c.requires.light (λ room. absurd (let no = (c.if-has_room.ensures c.child_of.result c.in-Some.inner).1 room in cc))
