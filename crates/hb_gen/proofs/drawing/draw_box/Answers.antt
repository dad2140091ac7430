use Rattle.std.proofs.Common.{◌+◌, ◌%◌, ◌∙◌, ap, arith}
use Rattle.hb_gen.specs.Draws.{draw, next_state}
use Rattle.hb_gen.proofs.DrawSteps.{low_added, high_added, lows_made, highs_made, state_after_two, corners_in_order}
use Rattle.hb_gen.proofs.drawing.draw_box.Goals as goal

pub loop-preserved : goal.loop-preserved
loop-preserved c =
    let before = c.loop.invariant in
    let least = c.below-least.ensures in
    let above = c.below.ensures in
    let behind = above.state ∙ ap next_state least.state in
    let upper = c.from-in-loop.ensures ∙ ap (λ n. n + c.below.result) least.value ∙ ap (λ n. draw c.loop.draws.state % 1000 + n) (above.value ∙ ap (λ y. draw y % 50) least.state) in
    record {
      lows = low_added c.args.attributes.number c.loop.counter c.loop.draws.state _ _ _ _ _ c.loop-test.true behind (c.from.ensures ∙ least.value) c.push.ensures.items before.lows;
      highs = high_added c.args.attributes.number c.loop.counter c.loop.draws.state _ _ _ _ _ c.loop-test.true behind upper c.push-in-loop.ensures.items before.highs;
      low_count = omega (arith, c.push.ensures.len, before.low_count);
      high_count = omega (arith, c.push-in-loop.ensures.len, before.high_count);
      left = state_after_two c.args.attributes.number c.loop.counter c.loop.draws.state _ _ c.loop-test.true behind before.left;
    }

pub unwrap-requires : goal.unwrap-requires
unwrap-requires c =
    let made = c.loop.invariant in
    let lower = lows_made c.args.attributes.number c.loop.counter c.loop.draws.state c.loop.lower.items _ c.loop-test.false made.lows in
    let upper = highs_made c.args.attributes.number c.loop.counter c.loop.draws.state c.loop.upper.items _ c.loop-test.false made.highs in
    c.between.ensures.made.1 (corners_in_order _ _ c.args.attributes.number c.args.draws.now.state
    (c.new-lo.ensures ∙ c.as_slice.ensures.value ∙ lower)
    (c.new-hi.ensures ∙ c.as_slice-2.ensures.value ∙ upper))
