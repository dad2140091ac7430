use Rattle.std.proofs.Common.{None, arith}
use Rattle.hb_boxlock.proofs.Places.{none_at_all}
use Rattle.hb_boxlock.proofs.tables.BoxLocks.new.Goals as goal

pub returns : goal.returns
returns c = none_at_all 1 c.default.result (λ i lt. c.default.ensures.at i None (omega (arith, lt, c.default.ensures.long)))
