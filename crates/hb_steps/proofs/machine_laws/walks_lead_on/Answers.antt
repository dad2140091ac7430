use Rattle.hb_steps.proofs.machine_laws.walks_lead_on.Goals as goal
use Rattle.hb_steps.proofs.Walks.AtHand.{walks_lead_on}
use Rattle.hb_steps.proofs.Walks.FurtherOn.{walks_lead_further}

pub returns-clause-later : goal.returns-clause-later
returns-clause-later c = walks_lead_on

pub returns-clause-further : goal.returns-clause-further
returns-clause-further c = walks_lead_further
