use Rattle.std.proofs.Common.{◌≡◌, ◌+◌, ◌≤◌, length, Some}
use Rattle.hb_view.specs.Behind.{rest_after}
use Rattle.hb_view.specs.Roots.{rest_there}
use Rattle.hb_view.proofs.skipping.rest_of.Given as goal

-- behind the trees that are left stands what stands behind the tree
abbrev pub invariant-loop-trees : goal.invariant-loop-trees
invariant-loop-trees l = record {
  same : rest_after l.trees l.tree.k.number l.rest ≡ Some (rest_there l.tree.k.number l.tree.bytes.now);
  few : l.trees + length l.rest ≤ 1 + length l.tree.bytes.now;
}

abbrev pub decreases-loop-trees : goal.decreases-loop-trees
decreases-loop-trees l = l.trees + length l.rest
