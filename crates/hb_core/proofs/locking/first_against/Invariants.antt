use Rattle.hb_core.proofs.Running.AgainstPlaces.{NoneBefore}
use Rattle.hb_core.proofs.locking.first_against.Given as goal

-- none of the places so far
abbrev pub invariant-loop-place : goal.invariant-loop-place
invariant-loop-place l = NoneBefore l.activities l.actor l.lock l.place
