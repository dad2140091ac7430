use Rattle.std.proofs.Common.{◌∙◌, arith}
use Rattle.hb_gen.proofs.DrawSteps.{value_added, state_after}
use Rattle.hb_gen.proofs.drawing.draw_point.Goals as goal

pub loop-preserved : goal.loop-preserved
loop-preserved c =
    let before = c.loop.invariant in
    let drawn = c.below-in-loop.ensures in
    record {
      told = value_added c.args.attributes.number c.loop.counter c.loop.draws.state _ _ _ _ _ c.loop-test.true drawn.state (c.from-in-loop.ensures ∙ drawn.value) c.push-in-loop.ensures.items before.told;
      number = omega (arith, c.push-in-loop.ensures.len, before.number);
      left = state_after c.args.attributes.number c.loop.counter c.loop.draws.state _ _ c.loop-test.true drawn.state before.left;
    }
