use Rattle.std.proofs.Common.{◌∙◌, rules}
use Rattle.hb_lemmas.proofs.Lists.{one_tells}
use Rattle.hb_sound.specs.Facts.{FindsBelow, FindsSame}
use Rattle.hb_sound.proofs.LeafTests.{both_match, right_cut}
use Rattle.hb_sound.proofs.Sides.{hi_back, lo_back, other_side}
use Rattle.hb_sound.proofs.links.+leaves_match.Goals as goal

pub leaves_match-from-requires : goal.leaves_match-from-requires
leaves_match-from-requires t c =
    let axis = c.in-Cut.axis in
    let value = c.in-Cut.value in
    let side =
    other_side c.args.corners.now c.replace_hi-greatest.new.self c.leaves_match-below.new.corners c.replace_hi.new.self c.replace_lo-least.new.self axis value c.replace_hi-greatest.result
    c.replace_hi-greatest.ensures.replaced c.replace_hi-greatest.ensures.before c.leaves_match-below.ensures.same c.replace_hi.ensures.replaced c.replace_lo-least.ensures.replaced in
    let cut = rw (← c.frag.view_is, c.in-Cut.is) at c.requires in
    (search rules, rw c.deref-in-Cut.ensures (right_cut c.args.corners.now c.replace_lo-least.new.self axis value c.in-Cut.left.value c.in-Cut.right.value side cut))

pub returns-in-Tip-clause-siblings : goal.returns-in-Tip-clause-siblings
returns-in-Tip-clause-siblings t c = rw (← c.frag.view_is, c.in-Tip.is) (one_tells (FindsSame c.args.facts.now c.args.level) _ c.finds_same.result c.finds_same.ensures)

pub returns-in-Tip-clause-children : goal.returns-in-Tip-clause-children
returns-in-Tip-clause-children t c = rw (← c.frag.view_is, c.in-Tip.is) (one_tells (FindsBelow c.args.facts.now c.args.level) _ c.finds_below.result c.finds_below.ensures)

pub returns-in-Cut-clause-siblings : goal.returns-in-Cut-clause-siblings
returns-in-Cut-clause-siblings t c =
    let axis = c.in-Cut.axis in
    let value = c.in-Cut.value in
    let side =
    other_side c.args.corners.now c.replace_hi-greatest.new.self c.leaves_match-below.new.corners c.replace_hi.new.self c.replace_lo-least.new.self axis value c.replace_hi-greatest.result
    c.replace_hi-greatest.ensures.replaced c.replace_hi-greatest.ensures.before c.leaves_match-below.ensures.same c.replace_hi.ensures.replaced c.replace_lo-least.ensures.replaced in
    rw (← c.frag.view_is, c.in-Cut.is)
    (both_match (FindsSame c.args.facts.now c.args.level) c.args.corners.now c.replace_hi-greatest.new.self c.replace_lo-least.new.self axis value c.in-Cut.left.value c.in-Cut.right.value
    c.leaves_match-below.result.0 c.leaves_match-from.result.0 c.both.result c.replace_hi-greatest.ensures.replaced side c.both.ensures
    (rw c.deref.ensures at c.leaves_match-below.ensures.siblings) (rw c.deref-in-Cut.ensures at c.leaves_match-from.ensures.siblings))

pub returns-in-Cut-clause-children : goal.returns-in-Cut-clause-children
returns-in-Cut-clause-children t c =
    let axis = c.in-Cut.axis in
    let value = c.in-Cut.value in
    let side =
    other_side c.args.corners.now c.replace_hi-greatest.new.self c.leaves_match-below.new.corners c.replace_hi.new.self c.replace_lo-least.new.self axis value c.replace_hi-greatest.result
    c.replace_hi-greatest.ensures.replaced c.replace_hi-greatest.ensures.before c.leaves_match-below.ensures.same c.replace_hi.ensures.replaced c.replace_lo-least.ensures.replaced in
    rw (← c.frag.view_is, c.in-Cut.is)
    (both_match (FindsBelow c.args.facts.now c.args.level) c.args.corners.now c.replace_hi-greatest.new.self c.replace_lo-least.new.self axis value c.in-Cut.left.value c.in-Cut.right.value
    c.leaves_match-below.result.1 c.leaves_match-from.result.1 c.both-in-Cut.result c.replace_hi-greatest.ensures.replaced side c.both-in-Cut.ensures
    (rw c.deref.ensures at c.leaves_match-below.ensures.children) (rw c.deref-in-Cut.ensures at c.leaves_match-from.ensures.children))

pub returns-in-Cut-clause-same : goal.returns-in-Cut-clause-same
returns-in-Cut-clause-same t c =
    let axis = c.in-Cut.axis in
    let value = c.in-Cut.value in
    let whole = hi_back c.args.corners.now c.replace_hi-greatest.new.self c.leaves_match-below.new.corners c.replace_hi.new.self axis value c.replace_hi-greatest.result
    c.replace_hi-greatest.ensures.replaced c.replace_hi-greatest.ensures.before c.leaves_match-below.ensures.same c.replace_hi.ensures.replaced in
    lo_back c.replace_hi.new.self c.replace_lo-least.new.self c.leaves_match-from.new.corners c.replace_lo.new.self axis value c.replace_lo-least.result
    c.replace_lo-least.ensures.replaced c.replace_lo-least.ensures.before c.leaves_match-from.ensures.same c.replace_lo.ensures.replaced
    ∙ whole
