use Rattle.std.proofs.Common.{◌≡◌, ◌<◌, ◌≤◌, ◌++◌, get_or, sym, ap, ◌∙◌}
use Rattle.std.proofs.lemmas.List.{append-nil}
use Rattle.std.proofs.lemmas.Result.{on_ok_weaker}
use Rattle.hb_frag.specs.Nodes.{tree_of}
use Rattle.hb_frag.specs.Trees.{Tip, Cut}
use Rattle.hb_frag.specs.Paths.{way_to}
use Rattle.hb_frag.proofs.Facts.Ways.{way_left, way_right}
use Rattle.hb_frag.proofs.fragments.Frag.+trace.Goals as goal

pub returns-in-Tip : goal.returns-in-Tip
returns-in-Tip t c =
    let e : c.args.self.now ≡ Tip c.in-Tip.field-0 = sym c.self.view_is ∙ ap tree_of c.in-Tip.is in
    sym (ap (λ u. c.args.path.now ++ way_to c.args.p.now u) e ∙ append-nil c.args.path.now)

pub returns-in_ok-push-in-Cut : goal.returns-in_ok-push-in-Cut
returns-in_ok-push-in-Cut t c =
    let e : c.args.self.now ≡ Cut c.in-Cut.axis c.in-Cut.value c.in-Cut.left.value c.in-Cut.right.value = sym c.self.view_is ∙ ap tree_of c.in-Cut.is in
    let below : get_or c.args.p.now c.in-Cut.axis 0 < c.in-Cut.value = rw (c.values.ensures.value, c.from.ensures) at c.if-values-from.true in
    on_ok_weaker c.trace.result (λ h. way_left c.args.self.now c.in-Cut.left.value c.in-Cut.right.value c.deref.result.now c.in-Cut.axis c.in-Cut.value c.args.p.now c.args.path.now c.push.new.self c.trace.new.path
    e c.deref.ensures below c.in_ok-push-in-Cut.ensures.ok h) c.trace.ensures

pub returns-in_ok-push-in-Cut-2 : goal.returns-in_ok-push-in-Cut-2
returns-in_ok-push-in-Cut-2 t c =
    let e : c.args.self.now ≡ Cut c.in-Cut.axis c.in-Cut.value c.in-Cut.left.value c.in-Cut.right.value = sym c.self.view_is ∙ ap tree_of c.in-Cut.is in
    let from : c.in-Cut.value ≤ get_or c.args.p.now c.in-Cut.axis 0 = rw (c.values.ensures.value, c.from.ensures) at c.if-values-from.false in
    on_ok_weaker c.trace-else-values-from.result (λ h. way_right c.args.self.now c.in-Cut.left.value c.in-Cut.right.value c.deref-else-values-from.result.now c.in-Cut.axis c.in-Cut.value c.args.p.now c.args.path.now c.push-else-values-from.new.self c.trace-else-values-from.new.path
    e c.deref-else-values-from.ensures from c.in_ok-push-in-Cut-2.ensures.ok h) c.trace-else-values-from.ensures
