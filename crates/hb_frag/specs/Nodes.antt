-- What a node is seen as.
use Rattle.hb_frag.specs.declared.fragments.Node.{Node}
use Rattle.hb_frag.specs.declared.fragments.Node.TheVariants as nodes
use Rattle.hb_frag.specs.Trees.{Tree, Tip, Cut}

abbrev pub tree_of : Node → Tree
tree_of (nodes.Tip leaf) = Tip leaf
tree_of (nodes.Cut axis value left right) = Cut axis value left.value right.value
