use Rattle.hb_gen.proofs.TextSteps.{line_added, lines_added}
use Rattle.hb_gen.proofs.generating.generate.Goals as goal

pub loop-index-preserved : goal.loop-index-preserved
loop-index-preserved c =
    let line = c.draw_line-line.ensures in
    line_added c.args.attributes.number c.args.lines c.loop-index.index c.loop-index.draws.state _ _ _ _ _ c.loop-index-test.true line.line line.state c.in_ok-add_line.ensures c.loop-index.invariant

pub returns : goal.returns
returns c =
    lines_added c.args.attributes.number c.args.lines c.loop-index.index c.loop-index.draws.state _ _ c.loop-index-test.false c.loop-index.invariant
