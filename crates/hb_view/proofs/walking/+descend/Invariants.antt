use Rattle.std.proofs.Common.{length}
use Rattle.hb_view.proofs.walking.+descend.Given as goal

-- a side has fewer bytes than the tree
abbrev pub decreases-descend : goal.decreases-descend
decreases-descend l = length l.tree.now.bytes.now
