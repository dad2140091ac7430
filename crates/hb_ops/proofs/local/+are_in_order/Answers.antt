use Rattle.hb_frag.specs.Rules.{IsInOrder}
use Rattle.hb_lemmas.proofs.Lists.{first_tells, one_tells, second_tells}
use Rattle.hb_ops.proofs.local.+are_in_order.Goals as goal

pub returns-in-Tip : goal.returns-in-Tip
returns-in-Tip t c = rw (← c.frag.view_is, c.in-Tip.is) (one_tells IsInOrder _ c.is_in_order.result c.is_in_order.ensures)

pub returns-then-are_in_order : goal.returns-then-are_in_order
returns-then-are_in_order t c =
    rw (← c.frag.view_is, c.in-Cut.is)
    (second_tells IsInOrder _ _ c.are_in_order-then-are_in_order.result
    ((rw (c.deref.ensures, c.cut-below.ensures.left) at c.are_in_order.ensures).0 c.if-are_in_order.true)
    (rw (c.deref-then-are_in_order.ensures, c.cut-below.ensures.right) at c.are_in_order-then-are_in_order.ensures))

pub returns-else-are_in_order : goal.returns-else-are_in_order
returns-else-are_in_order t c =
    rw (← c.frag.view_is, c.in-Cut.is)
    (first_tells IsInOrder _ _ c.are_in_order.result c.if-are_in_order.false (rw (c.deref.ensures, c.cut-below.ensures.left) at c.are_in_order.ensures))
