use Rattle.hb_activity.proofs.WaitingActors.{named_awaited, none_awaited}
use Rattle.hb_activity.proofs.laws.refusals_are_waits.Goals as goal

pub returns-clause-refused : goal.returns-clause-refused
returns-clause-refused c = named_awaited

pub returns-clause-granted : goal.returns-clause-granted
returns-clause-granted c = none_awaited
