use Rattle.hb_file_tests.specs.Driven.{IsDrivenOnFirst}
use Rattle.hb_file_tests.proofs.switches.flush_all.Given as goal

-- page 1 stays
abbrev pub invariant-loop-letter : goal.invariant-loop-letter
invariant-loop-letter l = IsDrivenOnFirst l.store.memory.state l.store.memory.uses
