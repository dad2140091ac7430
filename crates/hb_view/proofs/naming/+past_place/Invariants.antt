use Rattle.std.proofs.Common.{length}
use Rattle.hb_view.proofs.naming.+past_place.Given as goal

-- a side has fewer bytes than the tree
abbrev pub decreases-past_place : goal.decreases-past_place
decreases-past_place l = length l.tree.now.bytes.now
