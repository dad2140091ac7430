use Rattle.hb_steps.proofs.cause_laws.jobs_leave_to_workers.Goals as goal
use Rattle.hb_steps.proofs.Table.Causes.{jobs_leave_to_workers}

pub returns : goal.returns
returns c = jobs_leave_to_workers
