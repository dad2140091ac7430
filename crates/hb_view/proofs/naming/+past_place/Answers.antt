use Rattle.std.proofs.Common.{ℕ, List, length, ap, ◌∙◌, arith}
use Rattle.std.proofs.lemmas.Result.{err_from_is_err_and}
use Rattle.hb_space.specs.Boxes.{Area, side_from}
use Rattle.hb_view.proofs.LookedFor.{place_right, place_past, right_cut}
use Rattle.hb_view.proofs.Passing.{whole_again, whole_at_last}
use Rattle.hb_view.proofs.naming.+past_place.Goals as goal

pub past_place-requires-in-Cut : goal.past_place-requires-in-Cut
past_place-requires-in-Cut t c =
    let k = c.args.tree.now.k.number in
    let bytes = c.args.tree.now.bytes.now in
    let left = c.in-Cut.left.now in
    let right = c.in_ok-behind-in-Cut.right.now in
    let r = c.in_ok-behind-in-Cut.ensures.rest in
    let whole = whole_again c.args.bounds.now c.take_below-greatest.new.self c.past_place.new.bounds c.put_hi.new.self c.in-Cut.axis c.in-Cut.value c.take_below-greatest.result c.take_below-greatest.ensures.side c.take_below-greatest.ensures.greatest c.in_ok-behind-in-Cut.ensures.same c.put_hi.ensures in (
      omega (arith, c.in-Cut.ensures.right_shorter, ap (λ (b : List ℕ). length b) r, c.decreases),
      right_cut k bytes left right c.in-Cut.axis c.in-Cut.value c.args.bounds.now c.put_hi.new.self c.take_from-least.new.self c.in-Cut.ensures r whole c.take_from-least.ensures.side c.requires.well_cut,
    )

pub returns-in_err-further-in-Cut-clause-leaf : goal.returns-in_err-further-in-Cut-clause-leaf
returns-in_err-further-in-Cut-clause-leaf t c =
    let k = c.args.tree.now.k.number in
    let bytes = c.args.tree.now.bytes.now in
    let left = c.in-Cut.left.now in
    let whole = whole_again c.args.bounds.now c.take_below-greatest.new.self c.past_place.new.bounds c.put_hi.new.self c.in-Cut.axis c.in-Cut.value c.take_below-greatest.result c.take_below-greatest.ensures.side c.take_below-greatest.ensures.greatest c.in_ok-behind-in-Cut.ensures.same c.put_hi.ensures in
    let above = c.take_from-least.ensures.side ∙ ap (λ (a : Area). side_from a c.in-Cut.axis c.in-Cut.value) whole in
    let p = err_from_is_err_and c.from_residual-in_err-further-in-Cut.result c.from_residual-in_err-further-in-Cut.ensures.1 in
    rw (p.1, p.2) (place_right k bytes left c.in_ok-behind-in-Cut.right.now c.in-Cut.axis c.in-Cut.value c.args.bounds.now c.take_below-greatest.new.self c.take_from-least.new.self c.args.place c.in_ok-behind-in-Cut.behind _ _ c.in-Cut.ensures c.in_ok-behind-in-Cut.ensures.rest c.take_below-greatest.ensures.side above c.in_ok-behind-in-Cut.ensures.past c.in_err-further-in-Cut.ensures.leaf)

pub returns-in_ok-further-in-Cut-clause-past : goal.returns-in_ok-further-in-Cut-clause-past
returns-in_ok-further-in-Cut-clause-past t c =
    let k = c.args.tree.now.k.number in
    let bytes = c.args.tree.now.bytes.now in
    let left = c.in-Cut.left.now in
    let whole = whole_again c.args.bounds.now c.take_below-greatest.new.self c.past_place.new.bounds c.put_hi.new.self c.in-Cut.axis c.in-Cut.value c.take_below-greatest.result c.take_below-greatest.ensures.side c.take_below-greatest.ensures.greatest c.in_ok-behind-in-Cut.ensures.same c.put_hi.ensures in
    let above = c.take_from-least.ensures.side ∙ ap (λ (a : Area). side_from a c.in-Cut.axis c.in-Cut.value) whole in
    place_past k bytes left c.in_ok-behind-in-Cut.right.now c.in-Cut.axis c.in-Cut.value c.args.bounds.now c.take_below-greatest.new.self c.take_from-least.new.self c.args.place c.in_ok-behind-in-Cut.behind c.in_ok-further-in-Cut.further.0 c.in-Cut.ensures c.in_ok-behind-in-Cut.ensures.rest c.take_below-greatest.ensures.side above c.in_ok-behind-in-Cut.ensures.past c.in_ok-further-in-Cut.ensures.past

pub returns-in_ok-further-in-Cut-clause-same : goal.returns-in_ok-further-in-Cut-clause-same
returns-in_ok-further-in-Cut-clause-same t c =
    let whole = whole_again c.args.bounds.now c.take_below-greatest.new.self c.past_place.new.bounds c.put_hi.new.self c.in-Cut.axis c.in-Cut.value c.take_below-greatest.result c.take_below-greatest.ensures.side c.take_below-greatest.ensures.greatest c.in_ok-behind-in-Cut.ensures.same c.put_hi.ensures in
    whole_at_last c.args.bounds.now c.put_hi.new.self c.take_from-least.new.self c.past_place-in-Cut.new.bounds c.put_lo.new.self c.in-Cut.axis c.in-Cut.value c.take_from-least.result whole c.take_from-least.ensures.side c.take_from-least.ensures.least c.in_ok-further-in-Cut.ensures.same c.put_lo.ensures
