use Rattle.std.proofs.Common.{take, All}
use Rattle.hb_steps.specs.KeptLines.{HasLineBody}
use Rattle.hbpi.specs.Schedules.{HasLineBox}
use Rattle.hbpi.proofs.starting.knows_lines.Given as goal

abbrev pub invariant-loop-line : goal.invariant-loop-line
invariant-loop-line l = record {
  bodies : All HasLineBody (take l.line-index l.lines);
  boxes : All HasLineBox (take l.line-index l.lines);
}
