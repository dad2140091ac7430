use Rattle.std.proofs.Common.{option_map}
use Rattle.hb_frag.specs.Leaves.{IsWellCut}
use Rattle.hb_view.specs.Roots.{tree_there}
use Rattle.hb_view.proofs.Passing.{cut_goes_on, box_splits, well_cut_splits, whole_again, whole_at_last}
use Rattle.hb_view.proofs.rules.+behind_cuts.Goals as goal

pub returns-in_ok-right-in-Cut-clause-passes : goal.returns-in_ok-right-in-Cut-clause-passes
returns-in_ok-right-in-Cut-clause-passes t c =
    let k = c.args.tree.now.k.number in
    let bytes = c.args.tree.now.bytes.now in
    let left = c.in-Cut.left.now in
    let right = c.in_ok-right-in-Cut.right.now in
    let whole = whole_again c.args.bounds.now c.take_below-greatest.new.self c.behind_cuts-below.new.bounds c.put_hi.new.self c.in-Cut.axis c.in-Cut.value c.take_below-greatest.result c.take_below-greatest.ensures.side c.take_below-greatest.ensures.greatest c.behind_cuts-below.ensures.same c.put_hi.ensures in
    cut_goes_on k bytes left right c.in-Cut.axis c.in-Cut.value (λ t. IsWellCut t c.args.bounds.now) (λ t. IsWellCut t c.take_below-greatest.new.self) (λ t. IsWellCut t c.take_from-least.new.self) (option_map (λ b. b.now) c.behind_cuts-from.result) c.in-Cut.ensures c.in_ok-right-in-Cut.ensures.passes
    (box_splits c.args.bounds.now c.put_hi.new.self c.take_below-greatest.new.self c.take_from-least.new.self c.in-Cut.axis c.in-Cut.value (tree_there k left) (tree_there k right) IsWellCut whole c.take_below-greatest.ensures.side c.take_from-least.ensures.side (well_cut_splits c.args.bounds.now c.in-Cut.axis c.in-Cut.value (tree_there k left) (tree_there k right) (c.cuts.ensures.0 c.if-not-cuts.false)))
    c.behind_cuts-from.ensures.passes

pub returns-in_ok-right-in-Cut-clause-same : goal.returns-in_ok-right-in-Cut-clause-same
returns-in_ok-right-in-Cut-clause-same t c =
    let whole = whole_again c.args.bounds.now c.take_below-greatest.new.self c.behind_cuts-below.new.bounds c.put_hi.new.self c.in-Cut.axis c.in-Cut.value c.take_below-greatest.result c.take_below-greatest.ensures.side c.take_below-greatest.ensures.greatest c.behind_cuts-below.ensures.same c.put_hi.ensures in
    whole_at_last c.args.bounds.now c.put_hi.new.self c.take_from-least.new.self c.behind_cuts-from.new.bounds c.put_lo.new.self c.in-Cut.axis c.in-Cut.value c.take_from-least.result whole c.take_from-least.ensures.side c.take_from-least.ensures.least c.behind_cuts-from.ensures.same c.put_lo.ensures
