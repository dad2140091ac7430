use Rattle.std.proofs.Common.{sym, ◌∙◌}
use Rattle.std.proofs.lemmas.Option.{slice_get-get_or, slice_get_past}
use Rattle.hb_pool.proofs.Facts.Front.{number_looked_up}
use Rattle.hb_pool.proofs.order.Order.slot_of.Goals as goal

pub returns-then-place-slots : goal.returns-then-place-slots
returns-then-place-slots c =
    sym (slice_get-get_or c.slots-slots.result.now c.place-place.result 0 c.if-place-slots.true)
    ∙ number_looked_up c.args.id c.args.self.now c.slots-slots.result.now c.place-place.result c.slots-slots.ensures c.place-place.ensures

pub returns-else-place-slots : goal.returns-else-place-slots
returns-else-place-slots c =
    sym (slice_get_past c.slots-slots.result.now c.place-place.result c.if-place-slots.false)
    ∙ number_looked_up c.args.id c.args.self.now c.slots-slots.result.now c.place-place.result c.slots-slots.ensures c.place-place.ensures
