use Rattle.std.proofs.Common.{◌≡◌, false}
use Rattle.hb_file_tests.proofs.crowds.takes_turns.Given as goal

-- the store isn't stopped
abbrev pub invariant-loop-turn : goal.invariant-loop-turn
invariant-loop-turn l = l.store.memory.state.stopped ≡ false
