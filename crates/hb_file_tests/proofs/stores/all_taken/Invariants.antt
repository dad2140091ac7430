use Rattle.hb_file_tests.specs.Driven.{IsDrivenHere}
use Rattle.hb_file_tests.proofs.stores.all_taken.Given as goal

-- the store stays driven
abbrev pub invariant-loop-group : goal.invariant-loop-group
invariant-loop-group l = IsDrivenHere l.store.memory.state l.store.memory.uses
