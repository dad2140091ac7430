use Rattle.std.proofs.Common.{ℕ, get_or, ap, sym, ◌∙◌, arith}
use Rattle.std.specs.Ordering.{nat_cmp}
use Rattle.hb_view.specs.Corners.{point_there}
use Rattle.hb_view.proofs.Cornered.{differs_first, point_count, same_compare, same_values}
use Rattle.hb_view.proofs.corners.compare.Goals as goal

pub returns-then-is_ne : goal.returns-then-is_ne
returns-then-is_ne c =
    let many = point_count c.args.k.number c.args.bytes.now c.requires.room in
    differs_first (point_there c.args.k.number c.args.bytes.now) c.args.p.now c.loop-axis.axis c.cmp-order.result (omega (arith, many)) c.loop-axis-test.true c.loop-axis.invariant
    (c.cmp-order.ensures ∙ ap (λ (n : ℕ). nat_cmp n (get_or c.args.p.now c.loop-axis.axis 0)) c.value_at.ensures) (sym c.is_ne.ensures ∙ c.if-is_ne.true)

pub returns : goal.returns
returns c =
    same_compare (point_there c.args.k.number c.args.bytes.now) c.args.p.now (same_values c.args.k.number c.loop-axis.axis c.args.bytes.now c.args.p.now c.requires.attributes c.requires.room c.loop-axis-test.false c.loop-axis.invariant)
