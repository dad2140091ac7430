use Rattle.std.proofs.Common.{ℕ, List, length, Some, None, ap, ◌∙◌, arith}
use Rattle.hb_space.specs.Boxes.{Area, side_from}
use Rattle.hb_view.proofs.LookedFor.{stops_left, stops_right, right_cut}
use Rattle.hb_view.proofs.Passing.{whole_again, whole_at_last}
use Rattle.hb_view.proofs.naming.+past_named.Goals as goal

pub returns-in_err-right-in-Cut-clause-stops : goal.returns-in_err-right-in-Cut-clause-stops
returns-in_err-right-in-Cut-clause-stops t c =
    rw c.from_residual.ensures (stops_left c.args.tree.now.k.number c.args.tree.now.bytes.now c.in-Cut.left.now c.in-Cut.axis c.in-Cut.value c.args.bounds.now c.take_below-greatest.new.self c.args.sought c.past_named.new.bounds c.in-Cut.ensures c.take_below-greatest.ensures.side c.in_err-right-in-Cut.ensures.stops)

pub past_named-requires-in-Cut : goal.past_named-requires-in-Cut
past_named-requires-in-Cut t c =
    let k = c.args.tree.now.k.number in
    let bytes = c.args.tree.now.bytes.now in
    let left = c.in-Cut.left.now in
    let right = c.in_ok-right-in-Cut.right.now in
    let r = c.in_ok-right-in-Cut.ensures.stops.1 in
    let whole = whole_again c.args.bounds.now c.take_below-greatest.new.self c.past_named.new.bounds c.put_hi.new.self c.in-Cut.axis c.in-Cut.value c.take_below-greatest.result c.take_below-greatest.ensures.side c.take_below-greatest.ensures.greatest c.in_ok-right-in-Cut.ensures.same c.put_hi.ensures in (
      omega (arith, c.in-Cut.ensures.right_shorter, ap (λ (b : List ℕ). length b) r, c.decreases),
      right_cut k bytes left right c.in-Cut.axis c.in-Cut.value c.args.bounds.now c.put_hi.new.self c.take_from-least.new.self c.in-Cut.ensures r whole c.take_from-least.ensures.side c.requires.well_cut,
    )

pub returns-in_err-rest-in-Cut-clause-stops : goal.returns-in_err-rest-in-Cut-clause-stops
returns-in_err-rest-in-Cut-clause-stops t c =
    let k = c.args.tree.now.k.number in
    let bytes = c.args.tree.now.bytes.now in
    let left = c.in-Cut.left.now in
    let whole = whole_again c.args.bounds.now c.take_below-greatest.new.self c.past_named.new.bounds c.put_hi.new.self c.in-Cut.axis c.in-Cut.value c.take_below-greatest.result c.take_below-greatest.ensures.side c.take_below-greatest.ensures.greatest c.in_ok-right-in-Cut.ensures.same c.put_hi.ensures in
    let above = c.take_from-least.ensures.side ∙ ap (λ (a : Area). side_from a c.in-Cut.axis c.in-Cut.value) whole in
    rw c.from_residual-in_err-rest-in-Cut.ensures (stops_right k bytes left c.in_ok-right-in-Cut.right.now c.in-Cut.axis c.in-Cut.value c.args.bounds.now c.take_below-greatest.new.self c.take_from-least.new.self c.args.sought c.past_named-in-Cut.new.bounds None c.in-Cut.ensures c.take_below-greatest.ensures.side above c.in_ok-right-in-Cut.ensures.stops c.in_err-rest-in-Cut.ensures.stops)

pub returns-in_ok-rest-in-Cut-clause-stops : goal.returns-in_ok-rest-in-Cut-clause-stops
returns-in_ok-rest-in-Cut-clause-stops t c =
    let k = c.args.tree.now.k.number in
    let bytes = c.args.tree.now.bytes.now in
    let left = c.in-Cut.left.now in
    let whole = whole_again c.args.bounds.now c.take_below-greatest.new.self c.past_named.new.bounds c.put_hi.new.self c.in-Cut.axis c.in-Cut.value c.take_below-greatest.result c.take_below-greatest.ensures.side c.take_below-greatest.ensures.greatest c.in_ok-right-in-Cut.ensures.same c.put_hi.ensures in
    let above = c.take_from-least.ensures.side ∙ ap (λ (a : Area). side_from a c.in-Cut.axis c.in-Cut.value) whole in
    stops_right k bytes left c.in_ok-right-in-Cut.right.now c.in-Cut.axis c.in-Cut.value c.args.bounds.now c.take_below-greatest.new.self c.take_from-least.new.self c.args.sought c.past_named-in-Cut.new.bounds (Some c.in_ok-rest-in-Cut.rest.now) c.in-Cut.ensures c.take_below-greatest.ensures.side above c.in_ok-right-in-Cut.ensures.stops c.in_ok-rest-in-Cut.ensures.stops

pub returns-in_ok-rest-in-Cut-clause-same : goal.returns-in_ok-rest-in-Cut-clause-same
returns-in_ok-rest-in-Cut-clause-same t c =
    let whole = whole_again c.args.bounds.now c.take_below-greatest.new.self c.past_named.new.bounds c.put_hi.new.self c.in-Cut.axis c.in-Cut.value c.take_below-greatest.result c.take_below-greatest.ensures.side c.take_below-greatest.ensures.greatest c.in_ok-right-in-Cut.ensures.same c.put_hi.ensures in
    whole_at_last c.args.bounds.now c.put_hi.new.self c.take_from-least.new.self c.past_named-in-Cut.new.bounds c.put_lo.new.self c.in-Cut.axis c.in-Cut.value c.take_from-least.result whole c.take_from-least.ensures.side c.take_from-least.ensures.least c.in_ok-rest-in-Cut.ensures.same c.put_lo.ensures
