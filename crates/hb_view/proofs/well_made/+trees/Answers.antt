use Rattle.std.proofs.Common.{length, ap, refl, sym, subst, ◌∙◌, arith}
use Rattle.std.proofs.lemmas.Grind.{common_steps}
use Rattle.hb_space.specs.Boxes.{Area, side_from}
use Rattle.hb_page_codec.specs.Reading.{number_at}
use Rattle.hb_page_codec.specs.ReadingFields.{axis_at}
use Rattle.hb_page_codec.specs.ReadingPages.{node_at, tree_at}
use Rattle.hb_page_codec.proofs.Facts.Depth.{number_shortens, axis_shortens, left_by, tree_is}
use Rattle.hb_view.specs.WellMade.{GoesPastTree}
use Rattle.hb_view.proofs.PassedOver.{PlaneAt, cut_judged, has_stopped, left_stops, right_stops, side_count, went_past}
use Rattle.hb_view.proofs.Passing.{whole_again, whole_at_last}
use Rattle.hb_view.proofs.well_made.+trees.Goals as goal

pub past_cut-past_tree-below-requires : goal.past_cut-past_tree-below-requires
past_cut-past_tree-below-requires t c =
    let k = c.args.k.number in
    let la = left_by (axis_at k c.args.bytes.now) _ (c.in-Some.axis, c.in-Some.rest.now) (axis_shortens k c.args.bytes.now) c.in-Some.ensures in
    let lv = left_by (number_at 8 c.in-Some.rest.now) _ (c.in-Some-u64_of.value, c.in-Some-u64_of.left.now) (number_shortens 8 c.in-Some.rest.now) c.in-Some-u64_of.ensures in (
      omega (arith, la, lv, c.decreases),
      (ap (λ (a : Area). length a.lo) c.take_below-greatest.ensures.side ∙ c.requires.same, omega (arith, la, lv, c.requires.few)),
    )

pub past_cut-returns-then-not-below-clause-passes : goal.past_cut-returns-then-not-below-clause-passes
past_cut-returns-then-not-below-clause-passes t c =
    let plane : PlaneAt c.args.k.number c.args.bytes.now c.in-Some.axis c.in-Some-u64_of.value c.in-Some-u64_of.left.now = record { behind = c.in-Some.rest.now; attribute = c.in-Some.ensures; number = c.in-Some-u64_of.ensures } in
    let stopped = has_stopped c.args.level c.take_below-greatest.new.self c.args.passed.now.weight (tree_at c.args.k.number c.in-Some-u64_of.left.now) c.past_tree-below.new.passed c.past_tree-below.result c.past_tree-below.ensures.passes c.if-not-below.true in
    left_stops c.args.k.number c.args.level c.in-Some.axis c.in-Some-u64_of.value c.args.bounds.now c.take_below-greatest.new.self c.args.bytes.now c.in-Some-u64_of.left.now plane c.take_below-greatest.ensures.side stopped

pub past_cut-returns-then-not-below-clause-back : goal.past_cut-returns-then-not-below-clause-back
past_cut-returns-then-not-below-clause-back t c =
    whole_again c.args.bounds.now c.take_below-greatest.new.self c.past_tree-below.new.bounds c.put_hi.new.self c.in-Some.axis c.in-Some-u64_of.value c.take_below-greatest.result c.take_below-greatest.ensures.side c.take_below-greatest.ensures.greatest c.past_tree-below.ensures.back c.put_hi.ensures

pub past_cut-past_tree-from-requires : goal.past_cut-past_tree-from-requires
past_cut-past_tree-from-requires t c =
    let k = c.args.k.number in
    let la = left_by (axis_at k c.args.bytes.now) _ (c.in-Some.axis, c.in-Some.rest.now) (axis_shortens k c.args.bytes.now) c.in-Some.ensures in
    let lv = left_by (number_at 8 c.in-Some.rest.now) _ (c.in-Some-u64_of.value, c.in-Some-u64_of.left.now) (number_shortens 8 c.in-Some.rest.now) c.in-Some-u64_of.ensures in
    let whole = whole_again c.args.bounds.now c.take_below-greatest.new.self c.past_tree-below.new.bounds c.put_hi.new.self c.in-Some.axis c.in-Some-u64_of.value c.take_below-greatest.result c.take_below-greatest.ensures.side c.take_below-greatest.ensures.greatest c.past_tree-below.ensures.back c.put_hi.ensures in
    let p = went_past c.args.level c.take_below-greatest.new.self c.args.passed.now.weight (tree_at c.args.k.number c.in-Some-u64_of.left.now) c.past_tree-below.new.passed c.past_tree-below.result c.past_tree-below.ensures.passes c.if-not-below.false in
    let light = c.past_tree-below.ensures.light c.if-not-below.false in (
      omega (arith, la, lv, light, p.weight, c.decreases),
      (side_count c.args.bounds.now c.put_hi.new.self c.take_from-least.new.self k c.in-Some.axis c.in-Some-u64_of.value whole c.take_from-least.ensures.side c.requires.same, omega (arith, la, lv, light, c.requires.few)),
    )

pub past_cut-returns-then-not-from-clause-passes : goal.past_cut-returns-then-not-from-clause-passes
past_cut-returns-then-not-from-clause-passes t c =
    let plane : PlaneAt c.args.k.number c.args.bytes.now c.in-Some.axis c.in-Some-u64_of.value c.in-Some-u64_of.left.now = record { behind = c.in-Some.rest.now; attribute = c.in-Some.ensures; number = c.in-Some-u64_of.ensures } in
    let whole = whole_again c.args.bounds.now c.take_below-greatest.new.self c.past_tree-below.new.bounds c.put_hi.new.self c.in-Some.axis c.in-Some-u64_of.value c.take_below-greatest.result c.take_below-greatest.ensures.side c.take_below-greatest.ensures.greatest c.past_tree-below.ensures.back c.put_hi.ensures in
    let p = went_past c.args.level c.take_below-greatest.new.self c.args.passed.now.weight (tree_at c.args.k.number c.in-Some-u64_of.left.now) c.past_tree-below.new.passed c.past_tree-below.result c.past_tree-below.ensures.passes c.if-not-below.false in
    let right = c.past_tree-below.new.passed.rest.now in
    let stopped = has_stopped c.args.level c.take_from-least.new.self c.past_tree-below.new.passed.weight (tree_at c.args.k.number right) c.past_tree-from.new.passed c.past_tree-from.result c.past_tree-from.ensures.passes c.if-not-from.true in
    right_stops c.args.k.number c.args.level c.in-Some.axis c.in-Some-u64_of.value c.args.bounds.now c.take_from-least.new.self c.args.bytes.now c.in-Some-u64_of.left.now right p.tree plane p.there
    (c.take_from-least.ensures.side ∙ ap (λ (a : Area). side_from a c.in-Some.axis c.in-Some-u64_of.value) whole) stopped

pub past_cut-returns-then-not-from-clause-back : goal.past_cut-returns-then-not-from-clause-back
past_cut-returns-then-not-from-clause-back t c =
    let whole = whole_again c.args.bounds.now c.take_below-greatest.new.self c.past_tree-below.new.bounds c.put_hi.new.self c.in-Some.axis c.in-Some-u64_of.value c.take_below-greatest.result c.take_below-greatest.ensures.side c.take_below-greatest.ensures.greatest c.past_tree-below.ensures.back c.put_hi.ensures in
    whole_at_last c.args.bounds.now c.put_hi.new.self c.take_from-least.new.self c.past_tree-from.new.bounds c.put_lo.new.self c.in-Some.axis c.in-Some-u64_of.value c.take_from-least.result whole c.take_from-least.ensures.side c.take_from-least.ensures.least c.past_tree-from.ensures.back c.put_lo.ensures

pub past_cut-returns-clause-passes : goal.past_cut-returns-clause-passes
past_cut-returns-clause-passes t c =
    let plane : PlaneAt c.args.k.number c.args.bytes.now c.in-Some.axis c.in-Some-u64_of.value c.in-Some-u64_of.left.now = record { behind = c.in-Some.rest.now; attribute = c.in-Some.ensures; number = c.in-Some-u64_of.ensures } in
    let whole = whole_again c.args.bounds.now c.take_below-greatest.new.self c.past_tree-below.new.bounds c.put_hi.new.self c.in-Some.axis c.in-Some-u64_of.value c.take_below-greatest.result c.take_below-greatest.ensures.side c.take_below-greatest.ensures.greatest c.past_tree-below.ensures.back c.put_hi.ensures in
    let p = went_past c.args.level c.take_below-greatest.new.self c.args.passed.now.weight (tree_at c.args.k.number c.in-Some-u64_of.left.now) c.past_tree-below.new.passed c.past_tree-below.result c.past_tree-below.ensures.passes c.if-not-below.false in
    let q = went_past c.args.level c.take_from-least.new.self c.past_tree-below.new.passed.weight (tree_at c.args.k.number c.past_tree-below.new.passed.rest.now) c.past_tree-from.new.passed c.past_tree-from.result c.past_tree-from.ensures.passes c.if-not-from.false in
    cut_judged c.args.k.number c.args.level c.in-Some.axis c.in-Some-u64_of.value c.args.bounds.now c.take_below-greatest.new.self c.take_from-least.new.self c.args.passed.now.weight c.args.bytes.now c.in-Some-u64_of.left.now c.past_tree-below.new.passed c.past_tree-from.new.passed _ c.are_alike-alike.result plane (c.cuts.ensures.0 c.if-not-cuts.false)
    c.take_below-greatest.ensures.side (c.take_from-least.ensures.side ∙ ap (λ (a : Area). side_from a c.in-Some.axis c.in-Some-u64_of.value) whole) p q c.are_alike-alike.ensures refl refl refl

pub past_cut-returns-clause-light : goal.past_cut-returns-clause-light
past_cut-returns-clause-light t c _ =
    let k = c.args.k.number in
    let la = left_by (axis_at k c.args.bytes.now) _ (c.in-Some.axis, c.in-Some.rest.now) (axis_shortens k c.args.bytes.now) c.in-Some.ensures in
    let lv = left_by (number_at 8 c.in-Some.rest.now) _ (c.in-Some-u64_of.value, c.in-Some-u64_of.left.now) (number_shortens 8 c.in-Some.rest.now) c.in-Some-u64_of.ensures in
    omega (arith, la, lv, c.past_tree-below.ensures.light c.if-not-below.false, c.past_tree-from.ensures.light c.if-not-from.false)

pub past_cut-returns-clause-back : goal.past_cut-returns-clause-back
past_cut-returns-clause-back t c =
    let whole = whole_again c.args.bounds.now c.take_below-greatest.new.self c.past_tree-below.new.bounds c.put_hi.new.self c.in-Some.axis c.in-Some-u64_of.value c.take_below-greatest.result c.take_below-greatest.ensures.side c.take_below-greatest.ensures.greatest c.past_tree-below.ensures.back c.put_hi.ensures in
    whole_at_last c.args.bounds.now c.put_hi.new.self c.take_from-least.new.self c.past_tree-from.new.bounds c.put_lo.new.self c.in-Some.axis c.in-Some-u64_of.value c.take_from-least.result whole c.take_from-least.ensures.side c.take_from-least.ensures.least c.past_tree-from.ensures.back c.put_lo.ensures

pub past_tree-returns-clause-passes : goal.past_tree-returns-clause-passes
past_tree-returns-clause-passes t c = subst (λ r. GoesPastTree c.args.level c.args.bounds.now c.args.passed.now.weight r c.past_root.new.passed c.past_root.result) (sym (tree_is c.args.k.number c.args.bytes.now)) c.past_root.ensures.passes

pub past_root-returns-in-2-clause-passes : goal.past_root-returns-in-2-clause-passes
unfolding node_at
past_root-returns-in-2-clause-passes t c = grind (arith, common_steps, c.past_child.ensures.passes c.args.bounds.now)

pub past_root-returns-in-3-clause-passes : goal.past_root-returns-in-3-clause-passes
unfolding node_at
past_root-returns-in-3-clause-passes t c = grind (arith, common_steps, c.past_sibling.ensures.passes c.args.bounds.now)
