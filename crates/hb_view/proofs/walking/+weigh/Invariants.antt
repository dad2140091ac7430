use Rattle.std.proofs.Common.{length}
use Rattle.hb_view.proofs.walking.+weigh.Given as goal

-- a side has fewer bytes than the tree
abbrev pub decreases-weigh : goal.decreases-weigh
decreases-weigh l = length l.tree.now.bytes.now
