use Rattle.hb_file_tests.specs.Driven.{IsDrivenHere}
use Rattle.hb_file_tests.proofs.stores.all_held.Given as goal

-- the store stays driven
abbrev pub invariant-loop-id : goal.invariant-loop-id
invariant-loop-id l = IsDrivenHere l.store.memory.state l.store.memory.uses
