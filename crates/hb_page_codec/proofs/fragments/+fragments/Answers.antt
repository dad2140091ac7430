use Rattle.std.proofs.Common.{sym, subst, ◌∙◌, arith}
use Rattle.std.proofs.lemmas.Result.{err_from_is_err_and}
use Rattle.hb_page_codec.specs.Reading.{Fails, number_at}
use Rattle.hb_page_codec.specs.ReadingFields.{axis_at}
use Rattle.hb_page_codec.proofs.Facts.Depth.{tree_is, tree_shortens, number_shortens, axis_shortens, left_by}
use Rattle.hb_page_codec.proofs.Facts.Refusals.{read_some}
use Rattle.hb_page_codec.proofs.fragments.+fragments.Goals as goal

pub cut_of-fragment_of-requires : goal.cut_of-fragment_of-requires
cut_of-fragment_of-requires t c =
    let k = c.args.k.number in
    let axis = read_some _ c.axis_of.result (c.in_ok-axis.axis, c.in_ok-axis.rest) (axis_at k c.args.bytes.now) c.in_ok-axis.ensures.ok_part c.axis_of.ensures in
    let value = read_some _ c.u64_of.result (c.in_ok-value.value, c.in_ok-value.rest) (number_at 8 c.in_ok-axis.rest.now) c.in_ok-value.ensures.ok_part c.u64_of.ensures in
    let la = left_by _ _ _ (axis_shortens k c.args.bytes.now) axis in
    let lv = left_by _ _ _ (number_shortens 8 c.in_ok-axis.rest.now) value in
    (omega (arith, la, lv, c.decreases))

pub cut_of-fragment_of-requires-2 : goal.cut_of-fragment_of-requires-2
cut_of-fragment_of-requires-2 t c =
    let k = c.args.k.number in
    let axis = read_some _ c.axis_of.result (c.in_ok-axis.axis, c.in_ok-axis.rest) (axis_at k c.args.bytes.now) c.in_ok-axis.ensures.ok_part c.axis_of.ensures in
    let value = read_some _ c.u64_of.result (c.in_ok-value.value, c.in_ok-value.rest) (number_at 8 c.in_ok-axis.rest.now) c.in_ok-value.ensures.ok_part c.u64_of.ensures in
    let la = left_by _ _ _ (axis_shortens k c.args.bytes.now) axis in
    let lv = left_by _ _ _ (number_shortens 8 c.in_ok-axis.rest.now) value in
    let ll = left_by _ _ _ (tree_shortens k c.in_ok-value.rest.now) c.in_ok-left.ensures.gives in
    (omega (arith, la, lv, ll, c.decreases))

pub fragment_of-returns-in_err-node-clause-gives : goal.fragment_of-returns-in_err-node-clause-gives
fragment_of-returns-in_err-node-clause-gives t c =
    let p = err_from_is_err_and c.from_residual.result c.from_residual.ensures.1 in
    rw (p.1, p.2) (subst (Fails c.in_err-node.field-0.0) (sym (tree_is c.args.k.number c.args.bytes.now)) c.in_err-node.ensures.gives)

pub fragment_of-returns-clause-gives : goal.fragment_of-returns-clause-gives
fragment_of-returns-clause-gives t c = tree_is c.args.k.number c.args.bytes.now ∙ c.in_ok-node.ensures.gives
