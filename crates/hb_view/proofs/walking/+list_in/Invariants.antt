use Rattle.std.proofs.Common.{length}
use Rattle.hb_view.proofs.walking.+list_in.Given as goal

-- a side has fewer bytes than the tree
abbrev pub decreases-list_in : goal.decreases-list_in
decreases-list_in l = length l.tree.now.bytes.now
