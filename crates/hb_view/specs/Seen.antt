-- What the views of trees, boxes and lists show.
use Rattle.std.specs.Prelude.{ℕ, List}
use Rattle.hb_space.specs.Boxes.{Area}
use Rattle.hb_space.specs.declared.records.Record.{Record}
use Rattle.hb_frag.specs.Trees.{Tree}
use Rattle.hb_view.specs.Corners.{corners_there}
use Rattle.hb_view.specs.Lists.{records_there, after_there}
use Rattle.hb_view.specs.Roots.{rest_there, tree_there}
use Rattle.hb_view.specs.declared.trees.Inside.{Inside}
use Rattle.hb_view.specs.declared.trees.ListView.{ListView}
use Rattle.hb_view.specs.declared.trees.TreeView.{TreeView}

abbrev pub tree_seen : TreeView → Tree
tree_seen view = tree_there view.k.number view.bytes.now

-- the bytes behind it
abbrev pub rest_seen : TreeView → List ℕ
rest_seen view = rest_there view.k.number view.bytes.now

abbrev pub area_seen : Inside → Area
area_seen inside = corners_there inside.tree.k.number inside.corners.now

abbrev pub list_seen : ListView → List Record
list_seen list = records_there list.k.number list.count list.first.now

-- the bytes behind them
abbrev pub after_seen : ListView → List ℕ
after_seen list = after_there list.k.number list.count list.first.now
