use Rattle.hb_file_tests.specs.Driven.{IsDrivenOnFirst}
use Rattle.hb_file_tests.proofs.switches.turned.Given as goal

-- page 1 stays
abbrev pub invariant-loop-groups : goal.invariant-loop-groups
invariant-loop-groups l = IsDrivenOnFirst l.store.memory.state l.store.memory.uses
