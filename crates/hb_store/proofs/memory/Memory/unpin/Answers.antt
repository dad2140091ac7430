use Rattle.std.proofs.Common.{◌<◌, sym, subst, ap, ◌∙◌}
use Rattle.std.specs.Prelude.{IsSomeAnd}
use Rattle.hb_pool.specs.Frames.{Use, unpinned}
use Rattle.hb_pool.specs.Pools.{frame_of, in_place}
use Rattle.hb_store.specs.Held.{StoreHeld}
use Rattle.hb_store.proofs.Called.{frame_unpinned, unpin_keeps, unpin_same, unpin_uses}
use Rattle.hb_store.proofs.memory.Memory.unpin.Goals as goal

pub unpin-requires : goal.unpin-requires
unpin-requires c = frame_unpinned c.self.inside.pool c.args.id (subst (λ (h : StoreHeld). IsSomeAnd (frame_of h.uses c.args.id) (λ (u : Use). 0 < u.pins)) (sym c.self.view_is) c.requires)

pub invariant_of-self : goal.invariant_of-self
invariant_of-self c =
    let m = c.self.inside in
    let is = c.self.invariant in
    let there = subst (λ (h : StoreHeld). IsSomeAnd (frame_of h.uses c.args.id) (λ (u : Use). 0 < u.pins)) (sym c.self.view_is) c.requires in
    let k = unpin_keeps m.turn m.meta m.log m.in_log m.stopped m.pool is.memory is.pool is.spelled c.args.id c.unpin.new.self c.unpin.ensures there in
    record { memory = k.memory; pool = k.framed; spelled = k.spelled }

pub returns-clause-state : goal.returns-clause-state
returns-clause-state c =
    let m = c.self.inside in
    let is = c.self.invariant in
    let there = subst (λ (h : StoreHeld). IsSomeAnd (frame_of h.uses c.args.id) (λ (u : Use). 0 < u.pins)) (sym c.self.view_is) c.requires in
    unpin_same m.turn m.meta m.log m.in_log m.stopped m.pool is.memory is.pool is.spelled c.args.id c.unpin.new.self c.unpin.ensures there ∙ ap (λ (h : StoreHeld). h.state) c.self.view_is

pub returns-clause-uses : goal.returns-clause-uses
returns-clause-uses c =
    let m = c.self.inside in
    let is = c.self.invariant in
    unpin_uses m.turn m.meta m.log m.in_log m.stopped m.pool is.memory is.pool is.spelled c.args.id c.unpin.new.self c.unpin.ensures ∙ ap (λ (h : StoreHeld). in_place c.args.id unpinned h.uses) c.self.view_is
