use Rattle.hb_boxlock.proofs.Keeping.{NobodyUpTo}
use Rattle.hb_boxlock.proofs.tables.first_against.Given as goal

-- none of the actors so far
abbrev pub invariant-loop-place : goal.invariant-loop-place
invariant-loop-place l = NobodyUpTo l.places l.actor l.lock l.place
