use Rattle.std.proofs.Common.{length}
use Rattle.hb_view.proofs.rules.+behind_cuts.Given as goal

-- a side has fewer bytes than the tree
abbrev pub decreases-behind_cuts : goal.decreases-behind_cuts
decreases-behind_cuts l = length l.tree.now.bytes.now
