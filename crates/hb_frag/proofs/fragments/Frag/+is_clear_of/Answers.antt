use Rattle.std.proofs.Common.{◌≡◌, ◌↔◌, IsTrue, List, subst, refl, sym, ap, ◌∙◌}
use Rattle.hb_frag.specs.Nodes.{tree_of}
use Rattle.hb_frag.specs.Trees.{Tree, Cut, Tip}
use Rattle.hb_frag.specs.Leaves.{Placed, leaves_of, siblings}
use Rattle.hb_frag.proofs.Cuts.{leaves_at_cut}
use Rattle.hb_frag.proofs.Clear.{AllClear, clear_then, clear_else}
use Rattle.hb_frag.proofs.fragments.Frag.+is_clear_of.Goals as goal

pub returns-then-is_clear_of : goal.returns-then-is_clear_of
returns-then-is_clear_of t c =
    let e : c.args.self.now ≡ Cut c.in-Cut.axis c.in-Cut.value c.in-Cut.left.value c.in-Cut.right.value = sym c.self.view_is ∙ ap tree_of c.in-Cut.is in
    let P : List Placed → Type 0 = λ xs. IsTrue c.is_clear_of-then-is_clear_of.result ↔ AllClear c.args.a.now (siblings xs) in
    leaves_at_cut _ _ _ _ _ _ _ _ _ _ P e c.deref.ensures c.deref-then-is_clear_of.ensures c.cut-below.ensures.left c.cut-below.ensures.right
    (clear_then c.args.a.now (leaves_of c.deref.result.now c.cut-below.result.0) (leaves_of c.deref-then-is_clear_of.result.now c.cut-below.result.1) _ _ c.is_clear_of-in-Cut.ensures c.if-is_clear_of.true c.is_clear_of-then-is_clear_of.ensures)

pub returns-else-is_clear_of : goal.returns-else-is_clear_of
returns-else-is_clear_of t c =
    let e : c.args.self.now ≡ Cut c.in-Cut.axis c.in-Cut.value c.in-Cut.left.value c.in-Cut.right.value = sym c.self.view_is ∙ ap tree_of c.in-Cut.is in
    let P : List Placed → Type 0 = λ xs. IsTrue c.is_clear_of-in-Cut.result ↔ AllClear c.args.a.now (siblings xs) in
    leaves_at_cut _ _ _ _ c.in-Cut.right.value _ _ _ _ _ P e c.deref.ensures refl c.cut-below.ensures.left c.cut-below.ensures.right
    (clear_else c.args.a.now (leaves_of c.deref.result.now c.cut-below.result.0) (leaves_of c.in-Cut.right.value c.cut-below.result.1) _ c.is_clear_of-in-Cut.ensures c.if-is_clear_of.false)

pub returns-in-Tip : goal.returns-in-Tip
returns-in-Tip t c =
    let e : c.args.self.now ≡ Tip c.in-Tip.leaf = sym c.self.view_is ∙ ap tree_of c.in-Tip.is in
    let P : Tree → Type 0 = λ t. IsTrue c.is_clear_of.result ↔ AllClear c.args.a.now (siblings (leaves_of t c.args.area)) in
    subst P (sym e) c.is_clear_of.ensures
