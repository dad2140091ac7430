use Rattle.std.proofs.Common.{Ok, Err, sym, subst}
use Rattle.hb_store.specs.Forced.{stopped_state}
use Rattle.hb_store.specs.Held.{StoreHeld}
use Rattle.hb_store.specs.Seen.{held_by}
use Rattle.hb_store.specs.WritingHome.{WritesHome}
use Rattle.hb_store.specs.declared.stops.WriteFault.{WriteFault}
use Rattle.hb_store.proofs.WrittenHome.{is_to_write, not_written_home, oldest_is_dirty, oldest_is_there, oldest_number, place_fits, written_home}
use Rattle.hb_store.proofs.store.Store.write_home.Goals as goal

pub page_offset-place-requires : goal.page_offset-place-requires
page_offset-place-requires g c = oldest_number (held_by c.args.self.now) c.args.id c.meta.ensures.memory c.meta.ensures.tied c.requires.oldest

pub unreachable-requires : goal.unreachable-requires
unreachable-requires g c =
    let held = held_by c.args.self.now in
    oldest_is_there held.state held.uses c.meta.ensures.tied c.args.id c.requires.oldest c.in-None.ensures

pub write-requires : goal.write-requires
write-requires g c =
    let d = g.D.Device.model c.args.self.now.disk in
    let held = held_by c.args.self.now in
    let there = c.in-Some.ensures in
    place_fits d held c.args.id c.page_offset-place.result
    (is_to_write d held c.args.id c.page_offset-place.result c.meta.result.now c.meta.ensures.memory c.meta.ensures.tied c.meta.ensures.meta c.page_offset-place.ensures c.args.self.now.room c.requires.running c.requires.waits c.requires.oldest)
    c.in-Some.bytes.now there.0 there.2

pub cleaned-requires : goal.cleaned-requires
cleaned-requires g c =
    let held = held_by c.args.self.now in
    oldest_is_dirty held.state held.uses c.meta.ensures.tied c.args.id c.requires.oldest

pub returns-in-Ok-clause-writes : goal.returns-in-Ok-clause-writes
returns-in-Ok-clause-writes g c =
    let d = g.D.Device.model c.args.self.now.disk in
    let e = g.D.Device.model c.write.new.self in
    let held = held_by c.args.self.now in
    let there = c.in-Some.ensures in
    subst (λ (h : StoreHeld). WritesHome (Ok tt) c.args.id d e held h) (sym c.cleaned.ensures)
    (written_home d e (g.met.D.Device.is_disk c.args.self.now.disk) (g.met.D.Device.is_disk c.write.new.self) held c.args.id c.page_offset-place.result
    (is_to_write d held c.args.id c.page_offset-place.result c.meta.result.now c.meta.ensures.memory c.meta.ensures.tied c.meta.ensures.meta c.page_offset-place.ensures c.args.self.now.room c.requires.running c.requires.waits c.requires.oldest)
    c.in-Some.bytes.now there.0 there.1 there.2 c.in-Ok.field-0 c.in-Ok.ensures)

pub returns-in-Err-clause-writes : goal.returns-in-Err-clause-writes
returns-in-Err-clause-writes g c =
    let d = g.D.Device.model c.args.self.now.disk in
    let e = g.D.Device.model c.write.new.self in
    let held = held_by c.args.self.now in
    let there = c.in-Some.ensures in
    let fault : WriteFault = record {} in
    subst (λ (h : StoreHeld). WritesHome (Err fault) c.args.id d e held (record { state = stopped_state h.state; uses = h.uses })) (sym c.memory.view_is)
    (not_written_home d e (g.met.D.Device.is_disk c.args.self.now.disk) (g.met.D.Device.is_disk c.write.new.self) held c.args.id c.page_offset-place.result
    (is_to_write d held c.args.id c.page_offset-place.result c.meta.result.now c.meta.ensures.memory c.meta.ensures.tied c.meta.ensures.meta c.page_offset-place.ensures c.args.self.now.room c.requires.running c.requires.waits c.requires.oldest)
    c.in-Some.bytes.now there.0 there.1 there.2 fault c.in-Err._fault c.in-Err.ensures)
