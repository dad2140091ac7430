use Rattle.hb_core.proofs.Machines.BesideSteps.{looking_goes_on, waiting_goes_on}
use Rattle.hb_core.proofs.between_laws.machines_go_on_between_steps.Goals as goal

pub returns-clause-waiting : goal.returns-clause-waiting
returns-clause-waiting c = waiting_goes_on

pub returns-clause-looking : goal.returns-clause-looking
returns-clause-looking c = looking_goes_on
