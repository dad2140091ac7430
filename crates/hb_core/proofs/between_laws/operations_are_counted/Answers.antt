use Rattle.hb_core.proofs.Facts.CountsKept.{begun_within, flushes_within, height_counted, stays_within, steps_within}
use Rattle.hb_core.proofs.between_laws.operations_are_counted.Goals as goal

pub returns-clause-within : goal.returns-clause-within
returns-clause-within c = record { begun = begun_within; step = steps_within; flush = flushes_within; stay = stays_within }

pub returns-clause-height : goal.returns-clause-height
returns-clause-height c = height_counted
