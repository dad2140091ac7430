use Rattle.hb_terms.proofs.Facts.Owing.{planned_may_be}
use Rattle.hb_terms.proofs.laws.a_planned_posting_may_be_made.Goals as goal

pub returns : goal.returns
returns c = planned_may_be
