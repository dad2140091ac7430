use Rattle.std.proofs.Common.{◌≡◌, ℕ, List, length, get_or, ap, sym, ◌∙◌, arith}
use Rattle.std.specs.Ordering.{nat_cmp, is_lt}
use Rattle.hb_view.specs.Corners.{point_there}
use Rattle.hb_view.proofs.Cornered.{point_count}
use Rattle.hb_view.proofs.Followed.{all_compared, box_holds, is_less, one_between, one_compared}
use Rattle.hb_view.proofs.well_made.follows_there.Goals as goal

pub loop-axis-preserved : goal.loop-axis-preserved
loop-axis-preserved c =
    let k = c.args.k.number in
    let key = c.args.key.now in
    let last = c.args.last.now in
    let same : length c.corners.result.0.now ≡ k = ap (λ (l : List ℕ). length l) c.corners.ensures.lo ∙ c.requires.same in
    record {
      between = one_between c.corners.result.0.now c.corners.result.1.now (point_there k key) c.loop-axis.axis c.value_at-value.result c.loop-axis.invariant.between c.value_at-value.ensures (c.lies_between.ensures.0 c.if-not-lies_between.false).0 (c.lies_between.ensures.0 c.if-not-lies_between.false).1;
      so_far = one_compared (point_there k last) (point_there k key) c.loop-axis.axis c.loop-axis.order _ c.compared_at-order.result (omega (arith, c.loop-axis-test.true, same, point_count k last c.requires.last)) (omega (arith, c.loop-axis-test.true, same, point_count k key c.requires.room))
          c.loop-axis.invariant.so_far (ap (λ (n : ℕ). nat_cmp (get_or (point_there k last) c.loop-axis.axis 0) n) c.value_at-value.ensures) c.compared_at-order.ensures;
    }

pub returns : goal.returns
returns c =
    let k = c.args.k.number in
    let key = c.args.key.now in
    let last = c.args.last.now in
    let same : length c.corners.result.0.now ≡ k = ap (λ (l : List ℕ). length l) c.corners.ensures.lo ∙ c.requires.same in
    let order = all_compared (point_there k last) (point_there k key) c.loop-axis.axis c.loop-axis.order (omega (arith, c.loop-axis-test.false, same, point_count k last c.requires.last)) (omega (arith, c.loop-axis-test.false, same, point_count k key c.requires.room)) c.loop-axis.invariant.so_far in
    let holds = box_holds k c.loop-axis.axis c.args.bounds.now c.corners.result.0.now c.corners.result.1.now key c.requires.same c.requires.room c.corners.ensures.lo c.corners.ensures.hi c.loop-axis-test.false c.loop-axis.invariant.between in (
      λ t. (holds, order ∙ is_less c.loop-axis.order (sym c.is_lt.ensures ∙ t)),
      λ both. c.is_lt.ensures ∙ ap is_lt (sym order ∙ both.1),
    )
