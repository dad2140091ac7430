use Rattle.std.proofs.Common.{map}
use Rattle.hb_run.specs.Seats.{AreSessionsTo}
use Rattle.hb_run.proofs.seats.sessions_of.Given as goal

abbrev pub invariant-loop-before : goal.invariant-loop-before
invariant-loop-before l = AreSessionsTo l.before l.lines (map (λ h. h.seat.actor) l.hands.items)
