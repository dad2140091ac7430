use Rattle.std.proofs.Common.{◌≡◌, ℕ, Option, Ok, Err, sym, subst}
use Rattle.hb_frag.specs.declared.pages.Page.{Page}
use Rattle.hb_layout.specs.declared.meta.Meta.{Meta}
use Rattle.hb_ops.specs.Files.{FileState}
use Rattle.hb_super.specs.Superblocks.{next_turn}
use Rattle.hb_store.specs.Forced.{stopped_state}
use Rattle.hb_store.specs.Held.{StoreHeld}
use Rattle.hb_store.specs.Keeps.{IsFresh}
use Rattle.hb_store.specs.Seen.{held_by}
use Rattle.hb_store.specs.Switching.{SwitchesTurn}
use Rattle.hb_store.specs.Turning.{MayTurn}
use Rattle.hb_store.specs.declared.stops.WriteFault.{WriteFault}
use Rattle.hb_store.proofs.SwitchDone.{IsToTurn, Turns, not_switched_so, switched_so}
use Rattle.hb_store.proofs.store.Store.switch.Goals as goal

pub returns-in-Ok-clause-switches : goal.returns-in-Ok-clause-switches
returns-in-Ok-clause-switches g c =
    let d = g.D.Device.model c.args.self.now.disk in
    let e = g.D.Device.model c.begin_turn.new.disk in
    let held = held_by c.args.self.now in
    let turn = c.next_turn.result in
    let to_turn : IsToTurn d held = record { memory = c.meta.ensures.memory; tied = c.meta.ensures.tied; may = c.requires.running; idle = c.requires.waits; clean = c.requires.clean; room = c.args.self.now.room } in
    let turns : Turns (Ok c.in-Ok.field-0) turn held.state.meta d e = subst (λ (m : Meta). Turns (Ok c.in-Ok.field-0) turn m d e) c.meta.ensures.meta (record { moments = c.in-Ok.ensures.moments; wrote = c.in-Ok.ensures.wrote }) in
    let fresh : (before : ℕ) (said : Meta) (touched : ℕ → Option Page) (s : FileState) → turn ≡ next_turn before → MayTurn d before said held.state.meta touched s → IsFresh e turn held.state.meta s
    = subst (λ (m : Meta). (before : ℕ) (said : Meta) (touched : ℕ → Option Page) (s : FileState) → turn ≡ next_turn before → MayTurn d before said m touched s → IsFresh e turn m s) c.meta.ensures.meta c.in-Ok.ensures.fresh in
    subst (λ (h : StoreHeld). SwitchesTurn (Ok tt) d e held h) (sym c.switched.ensures)
    (switched_so d e (g.met.D.Device.is_disk c.begin_turn.new.disk) held to_turn turn c.next_turn.ensures c.in-Ok.field-0 turns fresh c.in-Ok.ensures.clock)

pub returns-in-Err-clause-switches : goal.returns-in-Err-clause-switches
returns-in-Err-clause-switches g c =
    let d = g.D.Device.model c.args.self.now.disk in
    let e = g.D.Device.model c.begin_turn.new.disk in
    let held = held_by c.args.self.now in
    let turn = c.next_turn.result in
    let fault : WriteFault = record {} in
    let to_turn : IsToTurn d held = record { memory = c.meta.ensures.memory; tied = c.meta.ensures.tied; may = c.requires.running; idle = c.requires.waits; clean = c.requires.clean; room = c.args.self.now.room } in
    let turns : Turns {T = Unit {0}} (Err c.in-Err._fault) turn held.state.meta d e = subst (λ (m : Meta). Turns {T = Unit {0}} (Err c.in-Err._fault) turn m d e) c.meta.ensures.meta (record { moments = c.in-Err.ensures.moments; wrote = c.in-Err.ensures.wrote }) in
    subst (λ (h : StoreHeld). SwitchesTurn (Err fault) d e held (record { state = stopped_state h.state; uses = h.uses })) (sym c.memory.view_is)
    (not_switched_so d e (g.met.D.Device.is_disk c.begin_turn.new.disk) held to_turn turn c.next_turn.ensures c.in-Err._fault fault turns)
