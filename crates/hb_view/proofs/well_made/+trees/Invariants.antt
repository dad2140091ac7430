use Rattle.std.proofs.Common.{◌+◌, ◌*◌, length}
use Rattle.hb_view.proofs.well_made.+trees.Given as goal

-- The bytes that are left. A cut follows its tag, so it has one byte less than the node; its sides have no more than it has.
abbrev pub decreases-past_tree : goal.decreases-past_tree
decreases-past_tree l = 3 * length l.bytes.now + 1

abbrev pub decreases-past_root : goal.decreases-past_root
decreases-past_root l = 3 * length l.bytes.now

abbrev pub decreases-past_cut : goal.decreases-past_cut
decreases-past_cut l = 3 * length l.bytes.now + 2
