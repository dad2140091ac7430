use Rattle.hb_steps.proofs.keeping_laws.steps_go_on.Goals as goal
use Rattle.hb_steps.proofs.Machines.GoingOn.{steps_go_on, stopped_stays}

pub returns-clause-further : goal.returns-clause-further
returns-clause-further c = steps_go_on

pub returns-clause-stopped : goal.returns-clause-stopped
returns-clause-stopped c = stopped_stays
