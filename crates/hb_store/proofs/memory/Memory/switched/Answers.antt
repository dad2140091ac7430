use Rattle.std.proofs.Common.{◌≡◌, None, refl, sym, subst, ap, ◌∙◌}
use Rattle.hb_super.specs.Superblocks.{next_turn}
use Rattle.hb_store.specs.Held.{StoreHeld, oldest_dirty}
use Rattle.hb_store.specs.Inside.{memory_seen}
use Rattle.hb_store.specs.States.{IsMemory}
use Rattle.hb_store.specs.Switching.{switched_state}
use Rattle.hb_store.proofs.Framed.{tied}
use Rattle.hb_store.proofs.Switched.{memory_switched, none_dirty, switched_seen}
use Rattle.hb_store.proofs.memory.Memory.switched.Goals as goal

pub invariant_of-self : goal.invariant_of-self
invariant_of-self c =
    let m = c.self.inside in
    let is = c.self.invariant in
    let st = (memory_seen m).state in
    let same = switched_seen m.turn c.next_turn-self-inside.result m.meta m.log c.move_to.new.self m.pool m.in_log c.clear.new.self m.stopped (c.next_turn-self-inside.ensures ∙ ap (λ (h : StoreHeld). next_turn h.state.turn) (sym c.self.view_is)) c.log_start.result c.log_start.ensures c.move_to.ensures c.clear.ensures in
    let none : oldest_dirty (memory_seen m).uses ≡ None = ap (λ (h : StoreHeld). oldest_dirty h.uses) c.self.view_is ∙ c.requires.clean in
    record {
      memory = subst (λ (h : StoreHeld). IsMemory h.state) (sym same) (memory_switched st is.memory (none_dirty st (memory_seen m).uses (tied m.pool st is.pool refl refl) none));
      pool = is.pool;
      spelled = is.spelled;
    }

pub returns : goal.returns
returns c =
    let m = c.self.inside in
    switched_seen m.turn c.next_turn-self-inside.result m.meta m.log c.move_to.new.self m.pool m.in_log c.clear.new.self m.stopped (c.next_turn-self-inside.ensures ∙ ap (λ (h : StoreHeld). next_turn h.state.turn) (sym c.self.view_is)) c.log_start.result c.log_start.ensures c.move_to.ensures c.clear.ensures
    ∙ ap (λ (h : StoreHeld). let k : StoreHeld = record { state = switched_state h.state; uses = h.uses } in k) c.self.view_is
