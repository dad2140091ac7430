use Rattle.std.proofs.Common.{arith}
use Rattle.hb_view.specs.Corners.{point_there}
use Rattle.hb_view.proofs.TakenWithin.{PastCorner, above_greatest, below_least, lies_inside, lies_outside}
use Rattle.hb_view.proofs.gathering.lies_in.Goals as goal
use Rattle.hb_view.proofs.gathering.lies_in.Goals.{then-value-least-via-then-value-least, then-value-least-via-else-value-least+then-greatest-axis}

pub returns-then-value-least : goal.returns-then-value-least
returns-then-value-least c =
    let k = c.args.k.number in
    let i = c.loop-axis.axis in
    let out = elim c.then-value-least.branch as (λ x. PastCorner (point_there k c.args.bytes.now) c.args.at_hand.now i) [
      | then-value-least-via-then-value-least w ↦ below_least k c.args.bytes.now c.args.at_hand.now c.requires.room c.requires.attributes i c.value_at-value.result _ c.values-least.result.now c.value_at-value.ensures c.values-least.ensures.value c.lo.ensures.value w.if-value-least.true
      | then-value-least-via-else-value-least+then-greatest-axis w ↦ above_greatest k c.args.bytes.now c.args.at_hand.now c.requires.room c.requires.attributes i c.value_at-value.result _ c.values-greatest.result.now c.value_at-value.ensures c.values-greatest.ensures.value c.hi.ensures.value w.if-greatest-axis.true
    ] in
    lies_outside k c.args.bytes.now c.args.at_hand.now c.requires.room c.requires.attributes i (omega (arith, c.loop-axis-test.true, c.from-axis-end.ensures)) out

pub returns : goal.returns
returns c =
    lies_inside c.args.k.number c.args.bytes.now c.args.at_hand.now c.requires.room c.requires.attributes c.loop-axis.axis c.lo.ensures.area (omega (arith, c.loop-axis-test.false, c.from-axis-end.ensures)) c.loop-axis.invariant
