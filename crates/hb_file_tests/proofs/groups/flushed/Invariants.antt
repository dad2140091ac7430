use Rattle.std.proofs.Common.{◌≡◌, false}
use Rattle.hb_file_tests.proofs.groups.flushed.Given as goal

abbrev pub invariant-loop : goal.invariant-loop
invariant-loop l = l.store.memory.state.stopped ≡ false
