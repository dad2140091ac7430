use Rattle.std.proofs.Common.{sym}
use Rattle.hb_text.proofs.StepWords.{steps_at_x, steps_without_x}
use Rattle.hb_text.proofs.steps.cut_at_x.Goals as goal

pub returns-in-Some : goal.returns-in-Some
returns-in-Some c = steps_at_x c.args.word.now c.in-Some.at (sym c.in-Some.ensures)

pub returns-in-None : goal.returns-in-None
returns-in-None c = steps_without_x c.args.word.now (sym c.in-None.ensures)
