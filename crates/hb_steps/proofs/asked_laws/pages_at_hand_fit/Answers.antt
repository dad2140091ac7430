use Rattle.hb_steps.proofs.asked_laws.pages_at_hand_fit.Goals as goal
use Rattle.hb_steps.proofs.Walks.MayBeAsked.{pages_at_hand_fit}

pub returns : goal.returns
returns c = pages_at_hand_fit
