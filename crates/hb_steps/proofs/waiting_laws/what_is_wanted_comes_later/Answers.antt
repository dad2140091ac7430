use Rattle.hb_steps.proofs.waiting_laws.what_is_wanted_comes_later.Goals as goal
use Rattle.hb_steps.proofs.Walks.LaterWanted.{wanted_comes_later}

pub returns : goal.returns
returns c = wanted_comes_later
