use Rattle.std.proofs.Common.{◌≡◌, false, not, get_or, length, sym, ap, ◌∙◌, arith}
use Rattle.std.proofs.lemmas.List.Sums.{position_or_len_is}
use borrow.Author.Count.{below_more}
use Rattle.hb_pool.specs.Frames.{may_go}
use Rattle.hb_pool.specs.Slots.{Content, empty_slot, framed}
use Rattle.hb_pool.proofs.Facts.Slotted.{slot_read}
use Rattle.hb_pool.proofs.pools.first_to_go.Goals as goal

pub returns-then-not-must_stay : goal.returns-then-not-must_stay
returns-then-not-must_stay c =
    let seen = slot_read c.args.slots.now c.args.order.now c.loop-place.place c.index-slots-order.result c.requires c.loop-place-test.true c.index-slots-order.is in
    sym (position_or_len_is (λ n. may_go (framed 0 (get_or c.args.slots.now n empty_slot))) c.args.order.now c.loop-place.place 0 (omega arith) c.loop-place.invariant
    (λ lt. ap (λ (s : Content). may_go (framed 0 s)) (sym seen) ∙ ap not (sym (c.must_stay.ensures 0) ∙ c.if-not-must_stay.true)))

pub loop-place-preserved : goal.loop-place-preserved
loop-place-preserved c =
    let seen = slot_read c.args.slots.now c.args.order.now c.loop-place.place c.index-slots-order.result c.requires c.loop-place-test.true c.index-slots-order.is in
    below_more (λ k. may_go (framed 0 (get_or c.args.slots.now (get_or c.args.order.now k 0) empty_slot)) ≡ false) c.loop-place.place c.loop-place.invariant
    (ap (λ (s : Content). may_go (framed 0 s)) (sym seen) ∙ ap not (sym (c.must_stay.ensures 0) ∙ c.if-not-must_stay.false))

pub returns : goal.returns
returns c =
    sym (position_or_len_is (λ n. may_go (framed 0 (get_or c.args.slots.now n empty_slot))) c.args.order.now (length c.args.order.now) 0 (omega arith) (λ k lt. c.loop-place.invariant k (omega (arith, lt, c.loop-place-test.false)))
    (λ lt. absurd (omega (arith, lt))))
