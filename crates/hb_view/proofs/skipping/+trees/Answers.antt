use Rattle.std.proofs.Common.{sym, subst, arith}
use Rattle.hb_page_codec.specs.Reading.{ReadsAs, number_at}
use Rattle.hb_page_codec.specs.ReadingFields.{axis_at}
use Rattle.hb_page_codec.proofs.Facts.Depth.{number_shortens, axis_shortens, left_by}
use Rattle.hb_view.proofs.Skipped.{tree_skipped, tree_shorter}
use Rattle.hb_view.proofs.skipping.+trees.Goals as goal

pub behind_cut-behind_tree-requires : goal.behind_cut-behind_tree-requires
behind_cut-behind_tree-requires t c =
    let k = c.args.k.number in
    let la = left_by (axis_at k c.args.bytes.now) _ (c.in_ok-_axis._axis, c.in_ok-_axis.rest.now) (axis_shortens k c.args.bytes.now) c.in_ok-_axis.ensures in
    let lv = left_by (number_at 8 c.in_ok-_axis.rest.now) _ (c.in_ok-_value._value, c.in_ok-_value.rest.now) (number_shortens 8 c.in_ok-_axis.rest.now) c.in_ok-_value.ensures in
    omega (arith, la, lv, c.decreases)

pub behind_cut-behind_tree-requires-2 : goal.behind_cut-behind_tree-requires-2
behind_cut-behind_tree-requires-2 t c =
    let k = c.args.k.number in
    let la = left_by (axis_at k c.args.bytes.now) _ (c.in_ok-_axis._axis, c.in_ok-_axis.rest.now) (axis_shortens k c.args.bytes.now) c.in_ok-_axis.ensures in
    let lv = left_by (number_at 8 c.in_ok-_axis.rest.now) _ (c.in_ok-_value._value, c.in_ok-_value.rest.now) (number_shortens 8 c.in_ok-_axis.rest.now) c.in_ok-_value.ensures in
    let ll = tree_shorter k c.in_ok-_value.rest.now c.in_ok-rest.rest.now c.in_ok-rest.ensures in
    omega (arith, la, lv, ll, c.decreases)

pub behind_tree-returns : goal.behind_tree-returns
behind_tree-returns t c = subst (λ r. ReadsAs (λ x. x.now) c.behind_node.result r) (sym (tree_skipped c.args.k.number c.args.bytes.now)) c.behind_node.ensures
