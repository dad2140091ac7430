use Rattle.hb_view.proofs.PlacedAmong.{HasPassed}
use Rattle.hb_view.proofs.places.place_among.Given as goal

-- so far all records had lesser points
abbrev pub invariant-loop : goal.invariant-loop
invariant-loop l = HasPassed l.list.k.number l.list.count l.counter l.list.first.now l.p l.from
