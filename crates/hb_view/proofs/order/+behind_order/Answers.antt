use Rattle.std.proofs.Common.{ℕ, List, length, All, option_map, ap, refl, arith}
use Rattle.hb_space.specs.Boxes.{Area, side_from}
use Rattle.hb_frag.specs.Leaves.{leaves_of}
use Rattle.hb_frag.specs.Rules.{IsInOrder}
use Rattle.hb_frag.specs.Trees.{Tree}
use Rattle.hb_view.specs.Roots.{tree_there, rest_there}
use Rattle.hb_view.proofs.LookedFor.{right_cut}
use Rattle.hb_view.proofs.Passing.{cut_goes_on, cut_stops, box_splits, order_splits, whole_again, whole_at_last}
use Rattle.hb_view.proofs.Risen.{list_in_order}
use Rattle.hb_view.proofs.order.+behind_order.Goals as goal

abbrev InOrder : Tree → Area → Type 0
InOrder t area = All IsInOrder (leaves_of t area)

pub returns-in_err-right-in-Cut-clause-passes : goal.returns-in_err-right-in-Cut-clause-passes
returns-in_err-right-in-Cut-clause-passes t c =
    let k = c.args.tree.now.k.number in
    let bytes = c.args.tree.now.bytes.now in
    let left = c.in-Cut.left.now in
    let box = c.args.bounds.now in
    let axis = c.in-Cut.axis in
    let value = c.in-Cut.value in
    let l = tree_there k left in
    let r = tree_there k (rest_there k left) in
    let splits = box_splits box box c.take_below-greatest.new.self (side_from box axis value) axis value l r InOrder refl c.take_below-greatest.ensures.side refl (order_splits box axis value l r) in
    rw c.from_residual.ensures (cut_stops k bytes left axis value (λ t. InOrder t box) (InOrder l c.take_below-greatest.new.self) c.in-Cut.ensures (λ w. (splits.0 w).0) c.in_err-right-in-Cut.ensures.passes)

pub returns-in_err-right-in-Cut-clause-same : goal.returns-in_err-right-in-Cut-clause-same
returns-in_err-right-in-Cut-clause-same t c =
    whole_again c.args.bounds.now c.take_below-greatest.new.self c.behind_order-below.new.bounds c.put_hi.new.self c.in-Cut.axis c.in-Cut.value c.take_below-greatest.result c.take_below-greatest.ensures.side c.take_below-greatest.ensures.greatest c.behind_order-below.ensures.same c.put_hi.ensures

pub behind_order-from-requires : goal.behind_order-from-requires
behind_order-from-requires t c =
    let k = c.args.tree.now.k.number in
    let bytes = c.args.tree.now.bytes.now in
    let left = c.in-Cut.left.now in
    let right = c.in_ok-right-in-Cut.right.now in
    let r = c.in_ok-right-in-Cut.ensures.passes.1 in
    let whole = whole_again c.args.bounds.now c.take_below-greatest.new.self c.behind_order-below.new.bounds c.put_hi.new.self c.in-Cut.axis c.in-Cut.value c.take_below-greatest.result c.take_below-greatest.ensures.side c.take_below-greatest.ensures.greatest c.behind_order-below.ensures.same c.put_hi.ensures in (
      omega (arith, c.in-Cut.ensures.right_shorter, ap (λ (b : List ℕ). length b) r, c.decreases),
      right_cut k bytes left right c.in-Cut.axis c.in-Cut.value c.args.bounds.now c.put_hi.new.self c.take_from-least.new.self c.in-Cut.ensures r whole c.take_from-least.ensures.side c.requires.well_cut,
    )

pub returns-in_ok-right-in-Cut-clause-passes : goal.returns-in_ok-right-in-Cut-clause-passes
returns-in_ok-right-in-Cut-clause-passes t c =
    let k = c.args.tree.now.k.number in
    let bytes = c.args.tree.now.bytes.now in
    let left = c.in-Cut.left.now in
    let right = c.in_ok-right-in-Cut.right.now in
    let whole = whole_again c.args.bounds.now c.take_below-greatest.new.self c.behind_order-below.new.bounds c.put_hi.new.self c.in-Cut.axis c.in-Cut.value c.take_below-greatest.result c.take_below-greatest.ensures.side c.take_below-greatest.ensures.greatest c.behind_order-below.ensures.same c.put_hi.ensures in
    cut_goes_on k bytes left right c.in-Cut.axis c.in-Cut.value (λ t. InOrder t c.args.bounds.now) (λ t. InOrder t c.take_below-greatest.new.self) (λ t. InOrder t c.take_from-least.new.self) (option_map (λ b. b.now) c.behind_order-from.result) c.in-Cut.ensures c.in_ok-right-in-Cut.ensures.passes
    (box_splits c.args.bounds.now c.put_hi.new.self c.take_below-greatest.new.self c.take_from-least.new.self c.in-Cut.axis c.in-Cut.value (tree_there k left) (tree_there k right) InOrder whole c.take_below-greatest.ensures.side c.take_from-least.ensures.side (order_splits c.args.bounds.now c.in-Cut.axis c.in-Cut.value (tree_there k left) (tree_there k right)))
    c.behind_order-from.ensures.passes

pub returns-in_ok-right-in-Cut-clause-same : goal.returns-in_ok-right-in-Cut-clause-same
returns-in_ok-right-in-Cut-clause-same t c =
    let whole = whole_again c.args.bounds.now c.take_below-greatest.new.self c.behind_order-below.new.bounds c.put_hi.new.self c.in-Cut.axis c.in-Cut.value c.take_below-greatest.result c.take_below-greatest.ensures.side c.take_below-greatest.ensures.greatest c.behind_order-below.ensures.same c.put_hi.ensures in
    whole_at_last c.args.bounds.now c.put_hi.new.self c.take_from-least.new.self c.behind_order-from.new.bounds c.put_lo.new.self c.in-Cut.axis c.in-Cut.value c.take_from-least.result whole c.take_from-least.ensures.side c.take_from-least.ensures.least c.behind_order-from.ensures.same c.put_lo.ensures

pub returns-in-Records-clause-passes : goal.returns-in-Records-clause-passes
returns-in-Records-clause-passes t c =
    list_in_order c.args.tree.now.k.number c.args.tree.now.bytes.now c.in-Records.first.now c.in-Records.count c.args.bounds.now (option_map (λ b. b.now) c.behind_rising.result) c.in-Records.ensures c.behind_rising.ensures
