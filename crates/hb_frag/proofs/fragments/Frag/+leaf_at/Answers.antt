use Rattle.std.proofs.Common.{◌≡◌, ◌≤◌, get_or, sym, ap, ◌∙◌, rules}
use Rattle.hb_space.specs.Boxes.{IsArea}
use Rattle.hb_frag.specs.Nodes.{tree_of}
use Rattle.hb_frag.specs.Trees.{Tip, Cut}
use Rattle.hb_frag.proofs.Facts.Ways.{found_here, found_left, found_right}
use Rattle.hb_frag.proofs.fragments.Frag.+leaf_at.Goals as goal

pub returns-in-Tip : goal.returns-in-Tip
returns-in-Tip t c =
    let e : c.args.self.now ≡ Tip c.in-Tip.leaf = sym c.self.view_is ∙ ap tree_of c.in-Tip.is in
    let box : IsArea c.args.area = search rules in
    record { value = found_here c.args.self.now c.in-Tip.leaf c.args.area c.args.p.now e box c.requires.held; inside = c.requires.held }

pub returns-then-values-at : goal.returns-then-values-at
returns-then-values-at t c =
    let e : c.args.self.now ≡ Cut c.in-Cut.axis c.in-Cut.value c.in-Cut.left.value c.in-Cut.right.value = sym c.self.view_is ∙ ap tree_of c.in-Cut.is in
    record {
      value = found_left c.args.self.now c.in-Cut.left.value c.in-Cut.right.value c.deref.result.now c.in-Cut.axis c.in-Cut.value c.args.area c.cut-below.result.0 c.args.p.now _ e c.deref.ensures c.cut-below.ensures.left c.leaf_at.ensures.value;
      inside = c.leaf_at.ensures.inside;
    }

pub returns-else-values-at : goal.returns-else-values-at
returns-else-values-at t c =
    let e : c.args.self.now ≡ Cut c.in-Cut.axis c.in-Cut.value c.in-Cut.left.value c.in-Cut.right.value = sym c.self.view_is ∙ ap tree_of c.in-Cut.is in
    let box : IsArea c.args.area = search rules in
    let behind : c.in-Cut.value ≤ get_or c.args.p.now c.in-Cut.axis 0 = rw (c.values.ensures.value, c.from-at.ensures) at c.if-values-at.false in
    record {
      value = found_right c.args.self.now c.in-Cut.left.value c.in-Cut.right.value c.deref-else-values-at.result.now c.in-Cut.axis c.in-Cut.value c.args.area c.cut-below.result.1 c.args.p.now _ e
          c.deref-else-values-at.ensures c.cut-below.ensures.right box c.requires.well_cut c.requires.held behind c.leaf_at-else-values-at.ensures.value;
      inside = c.leaf_at-else-values-at.ensures.inside;
    }
