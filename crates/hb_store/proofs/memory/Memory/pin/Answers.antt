use Rattle.std.proofs.Common.{◌<◌, sym, subst, ap, ◌∙◌}
use Rattle.std.specs.Prelude.{IsSomeAnd}
use Rattle.hb_pool.specs.Frames.{Use, pinned}
use Rattle.hb_pool.specs.Pools.{frame_of, put_last}
use Rattle.hb_store.specs.Held.{StoreHeld}
use Rattle.hb_store.proofs.Called.{frame_pinned, pin_keeps, pin_same, pin_uses}
use Rattle.hb_store.proofs.memory.Memory.pin.Goals as goal

pub pin-requires : goal.pin-requires
pin-requires c = frame_pinned c.self.inside.pool c.args.id (subst (λ (h : StoreHeld). IsSomeAnd (frame_of h.uses c.args.id) (λ (u : Use). u.pins < 255)) (sym c.self.view_is) c.requires)

pub invariant_of-self : goal.invariant_of-self
invariant_of-self c =
    let m = c.self.inside in
    let is = c.self.invariant in
    let there = subst (λ (h : StoreHeld). IsSomeAnd (frame_of h.uses c.args.id) (λ (u : Use). u.pins < 255)) (sym c.self.view_is) c.requires in
    let k = pin_keeps m.turn m.meta m.log m.in_log m.stopped m.pool is.memory is.pool is.spelled c.args.id c.pin.new.self c.pin.ensures there in
    record { memory = k.memory; pool = k.framed; spelled = k.spelled }

pub returns-clause-state : goal.returns-clause-state
returns-clause-state c =
    let m = c.self.inside in
    let is = c.self.invariant in
    let there = subst (λ (h : StoreHeld). IsSomeAnd (frame_of h.uses c.args.id) (λ (u : Use). u.pins < 255)) (sym c.self.view_is) c.requires in
    pin_same m.turn m.meta m.log m.in_log m.stopped m.pool is.memory is.pool is.spelled c.args.id c.pin.new.self c.pin.ensures there ∙ ap (λ (h : StoreHeld). h.state) c.self.view_is

pub returns-clause-uses : goal.returns-clause-uses
returns-clause-uses c =
    let m = c.self.inside in
    let is = c.self.invariant in
    pin_uses m.turn m.meta m.log m.in_log m.stopped m.pool is.memory is.pool is.spelled c.args.id c.pin.new.self c.pin.ensures ∙ ap (λ (h : StoreHeld). put_last c.args.id pinned h.uses) c.self.view_is
