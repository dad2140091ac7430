use Rattle.std.proofs.Common.{◌≡◌, ℕ, Some, subst, arith}
use Rattle.hb_view.specs.Behind.{rest_after}
use Rattle.hb_view.specs.Roots.{rest_there}
use Rattle.hb_view.proofs.ReadOver.{one_tree, no_tree}
use Rattle.hb_view.proofs.skipping.rest_of.Goals as goal

pub loop-trees-init : goal.loop-trees-init
loop-trees-init c = record { same = one_tree c.args.tree.now.k.number c.args.tree.now.bytes.now c.args.tree.now.there; few = omega arith }

pub returns : goal.returns
returns c =
    let none : c.loop-trees.trees ≡ 0 = omega arith in
    no_tree c.args.tree.now.k.number c.loop-trees.rest.now (rest_there c.args.tree.now.k.number c.args.tree.now.bytes.now) (subst (λ (n : ℕ). rest_after n c.args.tree.now.k.number c.loop-trees.rest.now ≡ Some (rest_there c.args.tree.now.k.number c.args.tree.now.bytes.now)) none c.loop-trees.invariant.same)
