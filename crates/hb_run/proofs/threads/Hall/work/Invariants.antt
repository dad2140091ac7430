use Rattle.std.proofs.Common.{◌≡◌}
use Rattle.hb_run.proofs.threads.Hall.work.Given as goal

-- it is the same actor
abbrev pub invariant-loop : goal.invariant-loop
invariant-loop g l = l.hand.seat.actor ≡ l.initial.hand.seat.actor
