use Rattle.std.proofs.Common.{sym, ap, subst, ◌∙◌}
use Rattle.hb_pool.proofs.Facts.Told.{frames_told}
use Rattle.hb_store.specs.Held.{StoreHeld, oldest_dirty}
use Rattle.hb_store.specs.Inside.{memory_seen}
use Rattle.hb_store.specs.States.{is_dirty, is_in_log}
use Rattle.std.specs.Prelude.{IfSome, IsTrue}
use Rattle.hb_store.proofs.Called.{frame_dirty, oldest_dirty_there}
use Rattle.hb_store.proofs.memory.Memory.oldest_dirty.Goals as goal

pub returns-clause-oldest : goal.returns-clause-oldest
returns-clause-oldest c = c.oldest_dirty.ensures.first ∙ sym (frames_told c.self.inside.pool).2 ∙ ap (λ (h : StoreHeld). oldest_dirty h.uses) c.self.view_is

pub returns-clause-dirty : goal.returns-clause-dirty
returns-clause-dirty c =
    let m = c.self.inside in
    let is = c.self.invariant in
    subst (λ (h : StoreHeld). IfSome c.oldest_dirty.result (λ id. IsTrue (is_dirty h.state id) × IsTrue (is_in_log h.state id))) c.self.view_is
    (oldest_dirty_there c.oldest_dirty.result (memory_seen m).state m.pool is.memory (λ id there. frame_dirty m.turn m.meta m.log m.in_log m.stopped m.pool is.memory is.pool is.spelled id there) c.oldest_dirty.ensures.dirty)
