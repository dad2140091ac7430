use Rattle.hb_steps.proofs.file_laws.the_order_stays_legal.Goals as goal
use Rattle.hb_steps.proofs.Orders.LegalOrder.{order_stays_legal}

pub returns : goal.returns
returns c = order_stays_legal c.contents_follow_the_order.ensures.contents c.searches_are_exact.ensures.replies
