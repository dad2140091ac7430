use Rattle.std.proofs.Common.{get_or, length, sym, ap, ◌∙◌, arith}
use Rattle.std.proofs.lemmas.List.Sums.{position_or_len_is}
use Rattle.hb_pool.specs.Slots.{Content, empty_slot}
use Rattle.hb_pool.proofs.Facts.Slotted.{slot_read}
use Rattle.hb_pool.proofs.pools.first_dirty.Goals as goal

pub returns-then-is_dirty : goal.returns-then-is_dirty
returns-then-is_dirty c =
    let seen = slot_read c.args.slots.now c.args.order.now c.loop-place.place c.index-slots-order.result c.requires c.loop-place-test.true c.index-slots-order.is in
    sym (position_or_len_is (λ n. (get_or c.args.slots.now n empty_slot).dirty) c.args.order.now c.loop-place.place 0 (omega arith) c.loop-place.invariant
    (λ lt. ap (λ (s : Content). s.dirty) (sym seen) ∙ sym c.is_dirty.ensures ∙ c.if-is_dirty.true))

pub returns : goal.returns
returns c =
    sym (position_or_len_is (λ n. (get_or c.args.slots.now n empty_slot).dirty) c.args.order.now (length c.args.order.now) 0 (omega arith) (λ k lt. c.loop-place.invariant k (omega (arith, lt, c.loop-place-test.false)))
    (λ lt. absurd (omega (arith, lt))))
