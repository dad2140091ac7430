use Rattle.std.proofs.Common.{length}
use Rattle.hb_view.proofs.naming.+past_named.Given as goal

-- a side has fewer bytes than the tree
abbrev pub decreases-past_named : goal.decreases-past_named
decreases-past_named l = length l.tree.now.bytes.now
