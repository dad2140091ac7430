use Rattle.std.proofs.Common.{arith}
use Rattle.hb_lemmas.proofs.Lists.{All-take_more}
use Rattle.hb_steps.specs.KeptLines.{HasLineBody}
use Rattle.hbpi.specs.Schedules.{HasLineBox}
use Rattle.hbpi.proofs.RunLines.{each_line}
use Rattle.hbpi.proofs.starting.knows_lines.Goals as goal

pub loop-line-preserved : goal.loop-line-preserved
loop-line-preserved c = record {
  bodies = All-take_more HasLineBody c.args.lines.now c.loop-line.line-index c.line-item.result (omega arith) c.line-item.is c.loop-line.invariant.bodies c.knows_line.ensures.body;
  boxes = All-take_more HasLineBox c.args.lines.now c.loop-line.line-index c.line-item.result (omega arith) c.line-item.is c.loop-line.invariant.boxes c.knows_line.ensures.area;
}

pub returns-clause-bodies : goal.returns-clause-bodies
returns-clause-bodies c = each_line HasLineBody c.args.lines.now c.loop-line.line-index (omega arith) c.loop-line.invariant.bodies

pub returns-clause-boxes : goal.returns-clause-boxes
returns-clause-boxes c = each_line HasLineBox c.args.lines.now c.loop-line.line-index (omega arith) c.loop-line.invariant.boxes
