use Rattle.std.proofs.Common.{◌<◌, ap, arith, length, ◌≡◌, ◌+◌, [], ◌∷◌, ◌++◌, cond, ltb, get_or, set, ◌∙◌, rules}
use Rattle.hb_space.specs.Boxes.{side_from, pieces_below}
use Rattle.hb_space.proofs.Facts.Outside.{peeled_none, peeled_all, peeled_more, rest_between-from_steps, pieces-from_steps}
use Rattle.hb_space.proofs.areas.Area.around.Goals as goal

pub loop-axis-preserved : goal.loop-axis-preserved
loop-axis-preserved c =
    let rest = c.loop-axis.rest in
    let inner = c.args.inner.now in
    let axis = c.loop-axis.axis in
    let least : c.values-least.result.now ≡ inner.lo = c.values-least.ensures.value ∙ c.lo.ensures.value in
    let greatest : c.values-greatest.result.now ≡ inner.hi = c.values-greatest.ensures.value ∙ c.hi.ensures.value in
    let mid : c.in_ok-rest.rest ≡ record { lo = set rest.lo axis (get_or inner.lo axis 0); hi = rest.hi } =
    rw (least, c.from-at.ensures) at c.in_ok-rest.ensures.rest in
    let next : c.in_ok-rest-2.rest ≡ record { lo = c.in_ok-rest.rest.lo; hi = set c.in_ok-rest.rest.hi axis (get_or inner.hi axis 0) } =
    rw (greatest, c.from-at.ensures) at c.in_ok-rest-2.ensures.rest in
    let more : c.without_below.new.pieces.items ≡ c.loop-axis.pieces.items ++ pieces_below axis rest inner =
    rw (least, c.from-at.ensures) at c.in_ok-rest.ensures.piece in
    let most : c.without_above.new.pieces.items ≡ c.without_below.new.pieces.items ++ cond (ltb (get_or inner.hi axis 0) (get_or c.in_ok-rest.rest.hi axis 0)) (side_from c.in_ok-rest.rest axis (get_or inner.hi axis 0 + 1) ∷ []) [] =
    rw (greatest, c.from-at.ensures) at c.in_ok-rest-2.ensures.piece in
    peeled_more c.args.self.now inner rest c.in_ok-rest-2.rest axis c.loop-axis.pieces.items c.without_above.new.pieces.items
    (search rules)
    c.lo.ensures.area c.requires.same c.loop-axis.invariant
    (rest_between-from_steps axis rest inner _ _ mid next)
    (pieces-from_steps axis rest inner _ _ _ _ mid more most)

pub without_below-requires-clause-low : goal.without_below-requires-clause-low
without_below-requires-clause-low c =
    let least : get_or c.values-least.result.now c.from-at.result 0 ≡ get_or c.args.inner.now.lo c.loop-axis.axis 0 = cc in
    omega (arith, (c.loop-axis.invariant.inside c.loop-axis.axis (omega (arith, ap length c.lo-2.ensures.value))).0)

pub without_below-requires-clause-high : goal.without_below-requires-clause-high
without_below-requires-clause-high c =
    let here : c.loop-axis.axis < length c.args.inner.now.lo = omega (arith, ap length c.lo-2.ensures.value) in
    let least : get_or c.values-least.result.now c.from-at.result 0 ≡ get_or c.args.inner.now.lo c.loop-axis.axis 0 = cc in
    omega (arith, (c.loop-axis.invariant.inside c.loop-axis.axis here).1, c.lo.ensures.area.ordered c.loop-axis.axis here)

pub loop-axis-init : goal.loop-axis-init
loop-axis-init c = peeled_none _ _ _ _ c.copy-rest.ensures.value c.new-pieces.ensures.items c.copy-rest.ensures.area c.requires.inside

pub returns-clause-value : goal.returns-clause-value
returns-clause-value c = peeled_all _ _ _ _ _ (omega (arith, ap length c.lo-2.ensures.value)) c.loop-axis.invariant
