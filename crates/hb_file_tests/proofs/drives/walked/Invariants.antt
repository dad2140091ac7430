use Rattle.hb_file_tests.specs.Driven.{IsDrivenHere}
use Rattle.hb_file_tests.proofs.drives.walked.Given as goal

-- the store stays driven
abbrev pub invariant-loop-step : goal.invariant-loop-step
invariant-loop-step l = IsDrivenHere l.store.memory.state l.store.memory.uses
