use Rattle.hb_core.proofs.Machines.BesideSteps.{looking_keeps_all, waiting_keeps_all}
use Rattle.hb_core.proofs.between_laws.all_is_kept_between_steps.Goals as goal

pub returns-clause-waiting : goal.returns-clause-waiting
returns-clause-waiting c = waiting_keeps_all

pub returns-clause-looking : goal.returns-clause-looking
returns-clause-looking c = looking_keeps_all
