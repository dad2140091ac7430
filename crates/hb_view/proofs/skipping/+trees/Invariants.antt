use Rattle.std.proofs.Common.{◌+◌, ◌*◌, length}
use Rattle.hb_view.proofs.skipping.+trees.Given as goal

-- The bytes that are left. A cut follows its tag, so it has one byte less than the node; its sides have no more than it has.
abbrev pub decreases-behind_tree : goal.decreases-behind_tree
decreases-behind_tree l = 3 * length l.bytes.now + 1

abbrev pub decreases-behind_node : goal.decreases-behind_node
decreases-behind_node l = 3 * length l.bytes.now

abbrev pub decreases-behind_cut : goal.decreases-behind_cut
decreases-behind_cut l = 3 * length l.bytes.now + 2
