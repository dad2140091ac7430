use Rattle.hb_split.specs.Steps.{BestStep}
use Rattle.hb_split.proofs.planes.best_step.Given as goal

abbrev pub invariant-loop-at : goal.invariant-loop-at
invariant-loop-at l = BestStep l.values l.at l.best
