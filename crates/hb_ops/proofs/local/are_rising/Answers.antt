use Rattle.std.proofs.Common.{rules}
use Rattle.std.proofs.lemmas.Fn.{always_returns_same}
use Rattle.hb_ops.proofs.Orders.{rising_tells}
use Rattle.hb_ops.proofs.local.are_rising.Goals as goal
use Rattle.hb_frag.proofs.Facts.PointOrder.{comes_before}

-- the closure compares two records' points
pub returns : goal.returns
returns c = rising_tells c.args.records.now c.is_sorted_by.result (c.is_sorted_by.ensures.cases comes_before (always_returns_same _ _ _ (λ a r g called. search rules)))
