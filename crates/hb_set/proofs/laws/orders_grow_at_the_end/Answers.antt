use Rattle.hb_set.proofs.Facts.OrderLaws.{replies_grown, result_grown}
use Rattle.hb_set.proofs.laws.orders_grow_at_the_end.Goals as goal

pub returns-clause-replies : goal.returns-clause-replies
returns-clause-replies c = replies_grown

pub returns-clause-result : goal.returns-clause-result
returns-clause-result c = result_grown
