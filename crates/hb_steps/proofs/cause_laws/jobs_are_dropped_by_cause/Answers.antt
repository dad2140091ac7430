use Rattle.hb_steps.proofs.cause_laws.jobs_are_dropped_by_cause.Goals as goal
use Rattle.hb_steps.proofs.Table.Causes.{drops_by_cause}

pub returns : goal.returns
returns c = drops_by_cause
