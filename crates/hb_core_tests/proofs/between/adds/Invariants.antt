use Rattle.std.proofs.Common.{◌≡◌}
use Rattle.hb_core_tests.proofs.between.adds.Given as goal

-- the file has one attribute still
abbrev pub invariant-loop-point : goal.invariant-loop-point
invariant-loop-point g l = l.core.store.memory.state.meta.k ≡ 1
