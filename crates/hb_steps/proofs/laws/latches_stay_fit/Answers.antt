use Rattle.hb_steps.proofs.laws.latches_stay_fit.Goals as goal
use Rattle.hb_steps.proofs.Latches.LatchesStay.{latches_stay_fit}

pub returns : goal.returns
returns c = latches_stay_fit c.going_beside_is_mutual.ensures.symmetric
