use Rattle.std.proofs.Common.{length}
use Rattle.hb_view.proofs.order.+behind_order.Given as goal

-- a side has fewer bytes than the tree
abbrev pub decreases-behind_order : goal.decreases-behind_order
decreases-behind_order l = length l.tree.now.bytes.now
