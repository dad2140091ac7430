use Rattle.hb_set.proofs.Facts.OrderLaws.{legal_cut, result_of-append, replies_joined}
use Rattle.hb_set.proofs.laws.legal_orders_may_be_cut.Goals as goal

pub returns-clause-legal : goal.returns-clause-legal
returns-clause-legal c = legal_cut

pub returns-clause-result : goal.returns-clause-result
returns-clause-result c = result_of-append

pub returns-clause-replies : goal.returns-clause-replies
returns-clause-replies c = replies_joined
