use Rattle.std.proofs.Common.{length}
use Rattle.hb_view.proofs.rules.+behind_kinds.Given as goal

-- a side has fewer bytes than the tree
abbrev pub decreases-behind_kinds : goal.decreases-behind_kinds
decreases-behind_kinds l = length l.tree.now.bytes.now
