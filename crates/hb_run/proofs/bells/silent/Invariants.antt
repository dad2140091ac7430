use Rattle.std.proofs.Common.{◌≡◌, ◌≤◌, length}
use Rattle.hb_run.proofs.bells.silent.Given as goal

-- as many as rounds
abbrev pub invariant-loop : goal.invariant-loop
invariant-loop l = record {
  few : l.counter ≤ 24;
  pushed : length l.bells.items ≡ l.counter;
}
