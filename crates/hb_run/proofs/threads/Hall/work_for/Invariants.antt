use Rattle.hb_run.specs.Ending.{IsSameCrew}
use Rattle.hb_run.proofs.threads.Hall.work_for.Given as goal

-- the same are here
abbrev pub invariant-loop : goal.invariant-loop
invariant-loop g l = IsSameCrew l.initial.crew l.crew
