use Rattle.hb_frag.proofs.Facts.PointOrder.{order_permutes, order_sorted, ties_order}
use Rattle.hb_frag.proofs.laws.point_order_is_a_stable_order.Goals as goal

pub returns-clause-same : goal.returns-clause-same
returns-clause-same c = order_permutes

pub returns-clause-sorted : goal.returns-clause-sorted
returns-clause-sorted c = order_sorted

pub returns-clause-stable : goal.returns-clause-stable
returns-clause-stable c = λ xs x. ties_order x xs
