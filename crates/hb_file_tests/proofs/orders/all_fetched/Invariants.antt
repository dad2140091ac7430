use Rattle.std.specs.Prelude.{ℕ}
use Rattle.hb_file_tests.specs.Driven.{FewPins, IsPinned}
use Rattle.hb_file_tests.proofs.orders.all_fetched.Given as goal

-- no page is pinned more often than before, and none less
abbrev pub invariant-loop-place : goal.invariant-loop-place
invariant-loop-place l = record {
  few : FewPins l.fn.store.memory.uses → FewPins l.store.memory.uses;
  pinned : (other : ℕ) → IsPinned l.fn.store.memory.uses other → IsPinned l.store.memory.uses other;
}
