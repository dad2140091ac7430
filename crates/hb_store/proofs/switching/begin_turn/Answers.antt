use Rattle.std.proofs.Common.{◌≡◌, ◌+◌, ◌*◌, ◌%◌, ℕ, List, IfSome, Option, refl, ap, is_err, arith}
use Rattle.hb_disk.proofs.Facts.RunLaws.{Leaves-then}
use Rattle.hb_disk.proofs.Facts.RewriteLaws.{Rewrites-sync}
use Rattle.hb_frag.specs.declared.pages.Page.{Page}
use Rattle.hb_layout.specs.declared.meta.Meta.{Meta}
use Rattle.hb_lemmas.proofs.Options.{on_ok_both}
use Rattle.hb_ops.specs.Files.{FileState}
use Rattle.hb_super.specs.Superblocks.{IsNewest, next_turn}
use Rattle.hb_store.specs.Keeps.{IsFresh}
use Rattle.hb_store.specs.Turning.{MayTurn, OpensByEither}
use Rattle.hb_store.proofs.Facts.Turned.{sync_moments, super_fresh, super_moments, zeroed_moments, zeroed_ready}
use Rattle.hb_store.proofs.Turns.{area_zeroed, nine_ticks, on_ok_each, on_ok_if, still_either, switch_failed, switch_wrote, turn_before}
use Rattle.hb_store.proofs.switching.begin_turn.Goals as goal

pub returns-in_err-sync-clause-moments : goal.returns-in_err-sync-clause-moments
returns-in_err-sync-clause-moments g c = λ before said touched s is may.
    let d = g.D.Device.model c.args.disk.now in
    let one = g.D.Device.model c.sync.new.self in
    still_either d one before said c.args.meta.now touched s
    (sync_moments before said c.args.meta.now touched s c.sync.result d one (g.met.D.Device.is_disk c.args.disk.now) may c.sync.ensures)

pub returns-in_err-zero_area-clause-moments : goal.returns-in_err-zero_area-clause-moments
returns-in_err-zero_area-clause-moments g c = λ before said touched s is may.
    let d = g.D.Device.model c.args.disk.now in
    let one = g.D.Device.model c.sync.new.self in
    let two = g.D.Device.model c.zero_area.new.disk in
    let is_d = g.met.D.Device.is_disk c.args.disk.now in
    still_either d two before said c.args.meta.now touched s
    (zeroed_moments before c.args.turn said c.args.meta.now (turn_before d is_d before said c.args.meta.now touched s may) is touched s c.sync.result c.zero_area.result d one two
    is_d (g.met.D.Device.is_disk c.sync.new.self) (g.met.D.Device.is_disk c.zero_area.new.disk)
    may c.sync.ensures c.sync.ensures.ticks c.log_start.result c.log_start.ensures c.zero_area.ensures.moments c.zero_area.ensures.wrote.run.became)

pub returns-clause-moments : goal.returns-clause-moments
returns-clause-moments g c = λ before said touched s is may.
    let d = g.D.Device.model c.args.disk.now in
    let one = g.D.Device.model c.sync.new.self in
    let two = g.D.Device.model c.zero_area.new.disk in
    let new = g.D.Device.model c.write_super.new.disk in
    let is_d = g.met.D.Device.is_disk c.args.disk.now in
    let is_one = g.met.D.Device.is_disk c.sync.new.self in
    let is_two = g.met.D.Device.is_disk c.zero_area.new.disk in
    let meta = c.args.meta.now in
    let next = c.args.turn in
    let small = turn_before d is_d before said meta touched s may in
    let zeroed = zeroed_ready before next said meta small is touched s c.sync.result c.zero_area.result d one two is_d is_one is_two
    may c.sync.ensures c.sync.ensures.ticks c.log_start.result c.log_start.ensures c.zero_area.ensures.moments c.zero_area.ensures.wrote.run.became
    (omega (arith, c.requires.room, c.sync.ensures.ticks.size, c.zero_area.ensures.wrote.run.became.size)) c.in_ok-zero_area.ensures.wrote.lasts c.in_ok-zero_area.ensures.wrote.written in
    Leaves-then d two new (OpensByEither before said meta touched s)
    (still_either d two before said meta touched s
    (zeroed_moments before next said meta small is touched s c.sync.result c.zero_area.result d one two is_d is_one is_two
    may c.sync.ensures c.sync.ensures.ticks c.log_start.result c.log_start.ensures c.zero_area.ensures.moments c.zero_area.ensures.wrote.run.became))
    (super_moments before next said meta small is touched s two new is_two zeroed
    (omega (arith, c.requires.room, c.sync.ensures.ticks.size, c.zero_area.ensures.wrote.run.became.size))
    (c.write_super.ensures.moments before said is zeroed.placed.here.places))

pub returns-clause-fresh : goal.returns-clause-fresh
returns-clause-fresh g c =
    let d = g.D.Device.model c.args.disk.now in
    let one = g.D.Device.model c.sync.new.self in
    let two = g.D.Device.model c.zero_area.new.disk in
    let new = g.D.Device.model c.write_super.new.disk in
    let is_d = g.met.D.Device.is_disk c.args.disk.now in
    let is_one = g.met.D.Device.is_disk c.sync.new.self in
    let is_two = g.met.D.Device.is_disk c.zero_area.new.disk in
    let meta = c.args.meta.now in
    let next = c.args.turn in
    on_ok_both {P = IfSome new.told (λ b. (x : List ℕ) → new.Image x → x ≡ b)}
    {Q = (before : ℕ) (said : Meta) → next ≡ next_turn before → IfSome two.told (λ b. IsNewest b before said → IfSome new.told (λ x. IsNewest x next meta))}
    {R = (before : ℕ) (said : Meta) (touched : ℕ → Option Page) (s : FileState) → next ≡ next_turn before → MayTurn d before said meta touched s → IsFresh new next meta s}
    c.write_super.result
    (λ durable newest before said touched s is may.
    let small = turn_before d is_d before said meta touched s may in
    let zeroed = zeroed_ready before next said meta small is touched s c.sync.result c.zero_area.result d one two is_d is_one is_two
    may c.sync.ensures c.sync.ensures.ticks c.log_start.result c.log_start.ensures c.zero_area.ensures.moments c.zero_area.ensures.wrote.run.became
    (omega (arith, c.requires.room, c.sync.ensures.ticks.size, c.zero_area.ensures.wrote.run.became.size)) c.in_ok-zero_area.ensures.wrote.lasts c.in_ok-zero_area.ensures.wrote.written in
    super_fresh before next said meta small is touched s two new is_two zeroed
    (omega (arith, c.requires.room, c.sync.ensures.ticks.size, c.zero_area.ensures.wrote.run.became.size))
    (g.met.D.Device.is_disk c.write_super.new.disk) c.write_super.ensures.wrote.run.became durable (newest before said is))
    c.write_super.ensures.wrote.lasts
    (on_ok_each c.write_super.result (λ (before : ℕ) (said : Meta). next ≡ next_turn before → IfSome two.told (λ b. IsNewest b before said → IfSome new.told (λ x. IsNewest x next meta)))
    (λ before said. on_ok_if c.write_super.result (next ≡ next_turn before) (IfSome two.told (λ b. IsNewest b before said → IfSome new.told (λ x. IsNewest x next meta))) (c.write_super.ensures.newest before said)))

pub returns-in_err-sync-clause-wrote : goal.returns-in_err-sync-clause-wrote
returns-in_err-sync-clause-wrote g c = λ before is.
    let d = g.D.Device.model c.args.disk.now in
    let one = g.D.Device.model c.sync.new.self in
    switch_failed before c.args.turn c.args.meta.now is (8192 + (c.args.turn % 2) * c.args.meta.now.log) refl c.sync.result c.from_residual.result 1 d one (omega arith) (ap is_err c.in_err-sync.was) c.from_residual.ensures.0
    (Rewrites-sync c.sync.result (8192 + (c.args.turn % 2) * c.args.meta.now.log) c.args.meta.now.log d one (g.met.D.Device.is_disk c.args.disk.now) c.sync.ensures)

pub returns-in_err-zero_area-clause-wrote : goal.returns-in_err-zero_area-clause-wrote
returns-in_err-zero_area-clause-wrote g c = λ before is.
    let d = g.D.Device.model c.args.disk.now in
    let one = g.D.Device.model c.sync.new.self in
    let two = g.D.Device.model c.zero_area.new.disk in
    switch_failed before c.args.turn c.args.meta.now is c.log_start.result c.log_start.ensures c.zero_area.result c.from_residual-in_err-zero_area.result 3 d two (omega arith) (ap is_err c.in_err-zero_area.was) c.from_residual-in_err-zero_area.ensures.0
    (area_zeroed before c.args.turn c.args.meta.now is c.log_start.result c.log_start.ensures c.sync.result c.zero_area.result d one two c.in_ok-sync.field-0 c.in_ok-sync.was (g.met.D.Device.is_disk c.args.disk.now) c.sync.ensures c.zero_area.ensures.wrote.run)

pub returns-clause-wrote : goal.returns-clause-wrote
returns-clause-wrote g c = λ before is.
    let d = g.D.Device.model c.args.disk.now in
    let one = g.D.Device.model c.sync.new.self in
    let two = g.D.Device.model c.zero_area.new.disk in
    let new = g.D.Device.model c.write_super.new.disk in
    switch_wrote before c.args.turn c.args.meta.now is c.log_start.result c.log_start.ensures c.zero_area.result c.write_super.result d two new c.in_ok-zero_area.field-0 c.in_ok-zero_area.was
    (area_zeroed before c.args.turn c.args.meta.now is c.log_start.result c.log_start.ensures c.sync.result c.zero_area.result d one two c.in_ok-sync.field-0 c.in_ok-sync.was (g.met.D.Device.is_disk c.args.disk.now) c.sync.ensures c.zero_area.ensures.wrote.run)
    c.write_super.ensures.wrote.run

pub returns-clause-clock : goal.returns-clause-clock
returns-clause-clock g c =
    let d = g.D.Device.model c.args.disk.now in
    let one = g.D.Device.model c.sync.new.self in
    let two = g.D.Device.model c.zero_area.new.disk in
    let new = g.D.Device.model c.write_super.new.disk in
    nine_ticks c.sync.result c.zero_area.result c.write_super.result c.in_ok-sync.field-0 c.in_ok-zero_area.field-0 d one two new c.in_ok-sync.was c.in_ok-zero_area.was (g.met.D.Device.is_disk c.args.disk.now) c.sync.ensures
    c.log_start.result c.args.meta.now.log c.zero_area.ensures.wrote.run c.zero_area.ensures.clock c.write_super.ensures.clock
