use Rattle.std.proofs.Common.{◌≡◌, sym, ap, ◌∙◌}
use Rattle.hb_frag.specs.Nodes.{tree_of}
use Rattle.hb_frag.specs.Trees.{Cut}
use Rattle.hb_frag.proofs.Cuts.{well_cut_then, well_cut_else}
use Rattle.hb_frag.proofs.fragments.Frag.+is_well_cut.Goals as goal

pub returns-then-is_well_cut : goal.returns-then-is_well_cut
returns-then-is_well_cut t c =
    let e : c.args.self.now ≡ Cut c.in-Cut.axis c.in-Cut.value c.in-Cut.left.value c.in-Cut.right.value = sym c.self.view_is ∙ ap tree_of c.in-Cut.is in
    well_cut_then c.args.self.now _ _ c.deref.result.now c.deref-then-is_well_cut.result.now _ _ c.args.area c.cut-below.result.0 c.cut-below.result.1 c.is_well_cut.result c.is_well_cut-then-is_well_cut.result
    e c.deref.ensures c.deref-then-is_well_cut.ensures c.cut-below.ensures.left c.cut-below.ensures.right (c.cuts.ensures.0 c.if-not-cuts.false) c.if-is_well_cut.true c.is_well_cut.ensures c.is_well_cut-then-is_well_cut.ensures

pub returns-else-is_well_cut : goal.returns-else-is_well_cut
returns-else-is_well_cut t c =
    let e : c.args.self.now ≡ Cut c.in-Cut.axis c.in-Cut.value c.in-Cut.left.value c.in-Cut.right.value = sym c.self.view_is ∙ ap tree_of c.in-Cut.is in
    well_cut_else c.args.self.now _ _ c.deref.result.now _ _ c.args.area c.cut-below.result.0 c.is_well_cut.result e c.deref.ensures c.cut-below.ensures.left c.if-is_well_cut.false c.is_well_cut.ensures
