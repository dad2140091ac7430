use Rattle.hb_steps.proofs.laws.walks_go_further.Goals as goal
use Rattle.hb_steps.proofs.Facts.LaterPages.{walks_go_further}

pub returns : goal.returns
returns c = walks_go_further c.each_step_of_a_walk_leads_further.ensures
