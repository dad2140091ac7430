use Rattle.hb_steps.proofs.keeping_laws.prefix_stays_pending.Goals as goal
use Rattle.hb_steps.proofs.Orders.PendingKept.{prefix_stays_pending, settled_stays_settled}

pub returns-clause-prefix : goal.returns-clause-prefix
returns-clause-prefix c = prefix_stays_pending

pub returns-clause-settled : goal.returns-clause-settled
returns-clause-settled c = settled_stays_settled
