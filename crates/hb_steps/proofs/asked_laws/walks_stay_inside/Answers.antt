use Rattle.hb_steps.proofs.asked_laws.walks_stay_inside.Goals as goal
use Rattle.hb_steps.proofs.Walks.MayBeAsked.{walks_stay_inside}

pub returns : goal.returns
returns c = walks_stay_inside
