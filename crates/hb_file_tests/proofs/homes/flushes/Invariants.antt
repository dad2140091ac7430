use Rattle.std.proofs.Common.{◌≡◌, false}
use Rattle.hb_file_tests.proofs.homes.flushes.Given as goal

-- the store isn't stopped
abbrev pub invariant-loop-letter : goal.invariant-loop-letter
invariant-loop-letter l = l.store.memory.state.stopped ≡ false
