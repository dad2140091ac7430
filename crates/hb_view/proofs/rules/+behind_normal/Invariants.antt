use Rattle.std.proofs.Common.{length}
use Rattle.hb_view.proofs.rules.+behind_normal.Given as goal

-- a side has fewer bytes than the tree
abbrev pub decreases-behind_normal : goal.decreases-behind_normal
decreases-behind_normal l = length l.tree.now.bytes.now
