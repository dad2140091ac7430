use Rattle.std.proofs.Common.{◌++◌, ◌∙◌, rules}
use Rattle.hb_frag.specs.Leaves.{leaves_of}
use Rattle.hb_sound.proofs.LeafTests.{right_cut}
use Rattle.hb_sound.proofs.RestSteps.{cut_more}
use Rattle.hb_sound.proofs.Sides.{hi_back, lo_back, other_side}
use Rattle.hb_sound.proofs.rests.+add_leaves.Goals as goal

pub add_leaves-requires-in-Cut : goal.add_leaves-requires-in-Cut
add_leaves-requires-in-Cut t c =
    let axis = c.in-Cut.axis in
    let value = c.in-Cut.value in
    let side =
    other_side c.args.corners.now c.replace_hi-greatest.new.self c.add_leaves.new.corners c.replace_hi.new.self c.replace_lo-least.new.self axis value c.replace_hi-greatest.result
    c.replace_hi-greatest.ensures.replaced c.replace_hi-greatest.ensures.before c.add_leaves.ensures.same c.replace_hi.ensures.replaced c.replace_lo-least.ensures.replaced in
    let cut = rw (← c.frag.view_is, c.in-Cut.is) at c.requires in
    (search rules, rw c.deref-in-Cut.ensures (right_cut c.args.corners.now c.replace_lo-least.new.self axis value c.in-Cut.left.value c.in-Cut.right.value side cut))

pub returns-in-Tip-clause-rest : goal.returns-in-Tip-clause-rest
returns-in-Tip-clause-rest t c before is = rw (← c.frag.view_is, c.in-Tip.is) (c.add_leaf.ensures before is)

pub returns-in-Cut-clause-rest : goal.returns-in-Cut-clause-rest
returns-in-Cut-clause-rest t c before is =
    let axis = c.in-Cut.axis in
    let value = c.in-Cut.value in
    let side =
    other_side c.args.corners.now c.replace_hi-greatest.new.self c.add_leaves.new.corners c.replace_hi.new.self c.replace_lo-least.new.self axis value c.replace_hi-greatest.result
    c.replace_hi-greatest.ensures.replaced c.replace_hi-greatest.ensures.before c.add_leaves.ensures.same c.replace_hi.ensures.replaced c.replace_lo-least.ensures.replaced in
    let below = leaves_of c.in-Cut.left.value c.replace_hi-greatest.new.self in
    let left = rw c.deref.ensures at (c.add_leaves.ensures.rest before is) in
    let right = rw c.deref-in-Cut.ensures at (c.add_leaves-in-Cut.ensures.rest (before ++ below) left) in
    rw (← c.frag.view_is, c.in-Cut.is)
    (cut_more c.args.facts.now c.args.level before c.args.corners.now c.replace_hi-greatest.new.self c.replace_lo-least.new.self axis value c.in-Cut.left.value c.in-Cut.right.value
    c.add_leaves-in-Cut.new.rest c.replace_hi-greatest.ensures.replaced side right)

pub returns-in-Cut-clause-same : goal.returns-in-Cut-clause-same
returns-in-Cut-clause-same t c =
    let axis = c.in-Cut.axis in
    let value = c.in-Cut.value in
    let whole = hi_back c.args.corners.now c.replace_hi-greatest.new.self c.add_leaves.new.corners c.replace_hi.new.self axis value c.replace_hi-greatest.result
    c.replace_hi-greatest.ensures.replaced c.replace_hi-greatest.ensures.before c.add_leaves.ensures.same c.replace_hi.ensures.replaced in
    lo_back c.replace_hi.new.self c.replace_lo-least.new.self c.add_leaves-in-Cut.new.corners c.replace_lo.new.self axis value c.replace_lo-least.result
    c.replace_lo-least.ensures.replaced c.replace_lo-least.ensures.before c.add_leaves-in-Cut.ensures.same c.replace_lo.ensures.replaced
    ∙ whole
