use Rattle.hb_steps.proofs.asked_laws.the_poster_may_be_asked.Goals as goal
use Rattle.hb_steps.proofs.Walks.MayBeAsked.{children_may_be_asked}

pub returns-clause-children : goal.returns-clause-children
returns-clause-children c = children_may_be_asked
