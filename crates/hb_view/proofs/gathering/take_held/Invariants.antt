use Rattle.std.proofs.Common.{◌-◌, ◌++◌}
use Rattle.hb_view.specs.Lists.{records_there}
use Rattle.hb_view.specs.Within.{records_within}
use Rattle.hb_view.proofs.TakenWithin.{TakesOn}
use Rattle.hb_view.proofs.gathering.take_held.Given as goal

-- what was taken so far, with what lies in the box of the records that are left, is what is to be taken
abbrev pub invariant-loop : goal.invariant-loop
invariant-loop l = TakesOn l.list.k.number (l.list.count - l.counter) l.rest l.at_hand l.found.items (l.fn.found.items ++ records_within l.at_hand (records_there l.list.k.number l.list.count l.list.first.now))
