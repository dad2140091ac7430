use Rattle.std.proofs.Common.{◌≡◌, sym, ap, subst, ◌∙◌}
use Rattle.hb_frag.specs.Nodes.{tree_of}
use Rattle.hb_frag.specs.Trees.{Tree, Tip, Cut}
use Rattle.hb_frag.specs.Leaves.{leaves_of, siblings, first_named}
use Rattle.hb_frag.proofs.Facts.Ways.{sibling_left, sibling_right}
use Rattle.hb_frag.proofs.fragments.Frag.+sibling_area.Goals as goal

pub returns-in-Tip : goal.returns-in-Tip
returns-in-Tip t c =
    let e : c.args.self.now ≡ Tip c.in-Tip.leaf = sym c.self.view_is ∙ ap tree_of c.in-Tip.is in
    let P : Tree → Type 0 = λ u. c.sibling_area.result ≡ first_named c.args.id (siblings (leaves_of u c.args.area)) in
    subst P (sym e) c.sibling_area.ensures

pub returns-in-Some : goal.returns-in-Some
returns-in-Some t c =
    let e : c.args.self.now ≡ Cut c.in-Cut.axis c.in-Cut.value c.in-Cut.left.value c.in-Cut.right.value = sym c.self.view_is ∙ ap tree_of c.in-Cut.is in
    sibling_left c.args.id c.args.self.now c.in-Cut.left.value c.in-Cut.right.value c.deref.result.now c.in-Cut.axis c.in-Cut.value c.args.area c.cut-below.result.0 c.in-Some.found e c.deref.ensures c.cut-below.ensures.left c.in-Some.ensures

pub returns-in-None : goal.returns-in-None
returns-in-None t c =
    let e : c.args.self.now ≡ Cut c.in-Cut.axis c.in-Cut.value c.in-Cut.left.value c.in-Cut.right.value = sym c.self.view_is ∙ ap tree_of c.in-Cut.is in
    sibling_right c.args.id c.args.self.now c.in-Cut.left.value c.in-Cut.right.value c.deref.result.now c.deref-in-None.result.now c.in-Cut.axis c.in-Cut.value c.args.area c.cut-below.result.0 c.cut-below.result.1 c.sibling_area-in-None.result
    e c.deref.ensures c.deref-in-None.ensures c.cut-below.ensures.left c.cut-below.ensures.right c.in-None.ensures c.sibling_area-in-None.ensures
