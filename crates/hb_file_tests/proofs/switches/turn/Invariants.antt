use Rattle.hb_file_tests.specs.Driven.{IsDrivenOnFirst}
use Rattle.hb_file_tests.proofs.switches.turn.Given as goal

-- page 1 stays
abbrev pub invariant-loop-group : goal.invariant-loop-group
invariant-loop-group l = IsDrivenOnFirst l.store.memory.state l.store.memory.uses
