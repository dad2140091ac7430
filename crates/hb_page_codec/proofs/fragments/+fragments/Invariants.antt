use Rattle.std.proofs.Common.{◌+◌, ◌*◌, length}
use Rattle.hb_page_codec.proofs.fragments.+fragments.Given as goal

-- The bytes that are left. A cut follows its tag, so it has one byte less than the node; its sides have no more than it has.
abbrev pub decreases-fragment_of : goal.decreases-fragment_of
decreases-fragment_of l = 3 * length l.bytes.now + 1

abbrev pub decreases-node_of : goal.decreases-node_of
decreases-node_of l = 3 * length l.bytes.now

abbrev pub decreases-cut_of : goal.decreases-cut_of
decreases-cut_of l = 3 * length l.bytes.now + 2
