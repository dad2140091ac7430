use Rattle.std.proofs.Common.{◌≡◌, refl, sym, ap, ◌∙◌}
use Rattle.hb_frag.specs.declared.paths.Side.TheVariants.{Left, Right}
use Rattle.hb_frag.specs.Nodes.{tree_of}
use Rattle.hb_frag.specs.Trees.{Tip, Cut}
use Rattle.hb_frag.proofs.Facts.Ways.{first_step, no_step, part_left, part_right, part_tip, part_here}
use Rattle.hb_frag.proofs.fragments.Frag.+part.Goals as goal

pub returns-in-Tip : goal.returns-in-Tip
returns-in-Tip t c =
    let e : c.args.self.now ≡ Tip c.in-Tip.field-0 = sym c.self.view_is ∙ ap tree_of c.in-Tip.is in
    let w = part_tip c.args.path.now _ _ c.args.self.now c.in-Tip.field-0 c.args.area (first_step Left _ c.args.path.now c.in-len1-up.len_at_least refl) e in
    record { value = w.value; inside = w.inside }

pub returns-in-Left : goal.returns-in-Left
returns-in-Left t c =
    let e : c.args.self.now ≡ Cut c.in-Cut.axis c.in-Cut.value c.in-Cut.left.value c.in-Cut.right.value = sym c.self.view_is ∙ ap tree_of c.in-Cut.is in
    let w = part_left c.part.result c.args.path.now _ c.args.self.now c.in-Cut.left.value c.in-Cut.right.value c.deref.result.now c.in-Cut.axis c.in-Cut.value c.args.area c.cut-below.result.0
    (first_step Left Left c.args.path.now c.in-len1-up.len_at_least c.in-Left.is) e c.deref.ensures c.cut-below.ensures.left (record { value = c.part.ensures.value; inside = c.part.ensures.inside }) in
    record { value = w.value; inside = w.inside }

pub returns-in-empty : goal.returns-in-empty
returns-in-empty t c =
    let w = part_here c.args.self c.args.path.now c.args.area (no_step c.args.path.now c.in-empty.len_below) in
    record { value = w.value; inside = w.inside }

pub returns-in-Right : goal.returns-in-Right
returns-in-Right t c =
    let e : c.args.self.now ≡ Cut c.in-Cut.axis c.in-Cut.value c.in-Cut.left.value c.in-Cut.right.value = sym c.self.view_is ∙ ap tree_of c.in-Cut.is in
    let w = part_right c.part-in-Right.result c.args.path.now _ c.args.self.now c.in-Cut.left.value c.in-Cut.right.value c.deref-in-Right.result.now c.in-Cut.axis c.in-Cut.value c.args.area c.cut-below.result.1
    (first_step Left Right c.args.path.now c.in-len1-up.len_at_least c.in-Right.is) e c.deref-in-Right.ensures c.cut-below.ensures.right (record { value = c.part-in-Right.ensures.value; inside = c.part-in-Right.ensures.inside }) in
    record { value = w.value; inside = w.inside }
