use Rattle.hb_poster.proofs.AllowedPostings.{growth_is_allowed}
use Rattle.hb_poster.proofs.laws.growth_is_allowed.Goals as goal

pub returns : goal.returns
returns c = growth_is_allowed
