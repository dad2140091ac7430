use Rattle.std.proofs.Common.{Some, get_or, sym, ◌∙◌}
use Rattle.std.proofs.lemmas.Option.{slice_get-get_or, slice_get_past}
use Rattle.hb_pool.specs.Slots.{frames_in}
use Rattle.hb_pool.proofs.Facts.Leaving.{numbers_there, first_dirty_page, dirty_page_there}
use Rattle.hb_pool.proofs.pools.Pool.oldest_dirty.Goals as goal

pub first_dirty-place-requires : goal.first_dirty-place-requires
first_dirty-place-requires c = numbers_there c.self.inside.order c.self.inside.slots.items c.deref.result.now c.slots.result.now c.self.invariant.each c.deref.ensures.value c.slots.ensures

pub returns-then-place-ids-clause-first : goal.returns-then-place-ids-clause-first
returns-then-place-ids-clause-first c =
    rw (← c.self.view_is) (sym (slice_get-get_or c.ids-ids.result.now c.first_dirty-place.result 0 c.if-place-ids.true)
    ∙ first_dirty_page c.self.inside.order c.self.inside.slots.items c.deref.result.now c.slots.result.now c.ids-ids.result.now c.first_dirty-place.result c.deref.ensures.value c.slots.ensures c.ids-ids.ensures.value c.first_dirty-place.ensures)

pub returns-then-place-ids-clause-dirty : goal.returns-then-place-ids-clause-dirty
returns-then-place-ids-clause-dirty c =
    let is = first_dirty_page c.self.inside.order c.self.inside.slots.items c.deref.result.now c.slots.result.now c.ids-ids.result.now c.first_dirty-place.result c.deref.ensures.value c.slots.ensures c.ids-ids.ensures.value c.first_dirty-place.ensures in
    rw (← c.self.view_is) (dirty_page_there (frames_in c.self.inside.order c.self.inside.slots.items) (Some (get_or c.ids-ids.result.now c.first_dirty-place.result 0)) c.self.invariant.frames.pool
    (sym (slice_get-get_or c.ids-ids.result.now c.first_dirty-place.result 0 c.if-place-ids.true) ∙ is))

pub returns-else-place-ids-clause-first : goal.returns-else-place-ids-clause-first
returns-else-place-ids-clause-first c =
    rw (← c.self.view_is) (sym (slice_get_past c.ids-ids.result.now c.first_dirty-place.result c.if-place-ids.false)
    ∙ first_dirty_page c.self.inside.order c.self.inside.slots.items c.deref.result.now c.slots.result.now c.ids-ids.result.now c.first_dirty-place.result c.deref.ensures.value c.slots.ensures c.ids-ids.ensures.value c.first_dirty-place.ensures)
