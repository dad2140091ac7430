use Rattle.hb_run.specs.Ringing.{RingsBelow}
use Rattle.hb_run.proofs.bells.Bells.ring.Given as goal

abbrev pub invariant-loop-place : goal.invariant-loop-place
invariant-loop-place l = RingsBelow l.place l.news l.rung.places
