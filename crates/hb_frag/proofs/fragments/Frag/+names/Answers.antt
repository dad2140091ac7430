use Rattle.std.proofs.Common.{◌≡◌, ◌↔◌, IsTrue, sym, ap, ◌∙◌}
use Rattle.std.specs.List.{Contains}
use Rattle.hb_frag.specs.declared.leaves.Leaf.TheVariants.{Child}
use Rattle.hb_frag.specs.Nodes.{tree_of}
use Rattle.hb_frag.specs.Trees.{Cut}
use Rattle.hb_frag.specs.Leaves.{leaves}
use Rattle.hb_frag.proofs.Cuts.{at_cut}
use Rattle.hb_frag.proofs.Facts.NamesListed.{in_second}
use Rattle.hb_frag.proofs.fragments.Frag.+names.Goals as goal

pub returns-else-names : goal.returns-else-names
returns-else-names t c =
    let e : c.args.self.now ≡ Cut c.in-Cut.axis c.in-Cut.value c.in-Cut.left.value c.in-Cut.right.value = sym c.self.view_is ∙ ap tree_of c.in-Cut.is in
    at_cut _ _ _ _ _ _ _ (λ t. IsTrue c.names-else-names.result ↔ Contains (leaves t) (Child c.args.id)) e c.deref.ensures c.deref-else-names.ensures
    (in_second (leaves c.deref.result.now) (leaves c.deref-else-names.result.now) _ _ _ c.names.ensures c.if-names.false c.names-else-names.ensures)
