use Rattle.std.proofs.Common.{◌≡◌, ℕ, List, Some, IfSome, length, arith}
use Rattle.std.proofs.lemmas.Result.{on_ok_weaker}
use Rattle.hb_disk.specs.Model.{overwritten}
use Rattle.hb_disk.proofs.Facts.BecomesLaws.{Becomes-write}
use Rattle.hb_frag.specs.Grammar.{SpellsPage}
use Rattle.hb_store.specs.Opening.{place_bytes}
use Rattle.hb_store.proofs.Facts.PlaceWrites.{page_written, becomes_there}
use Rattle.hb_restart.proofs.renewal.write_page.Goals as goal

pub returns-clause-there : goal.returns-clause-there
returns-clause-there g c =
    let d = g.D.Device.model c.args.disk.now in
    let new = g.D.Device.model c.write.new.self in
    let meta = c.args.meta.now in
    let bytes = c.encode.new.into in
    on_ok_weaker {P = IfSome d.told (λ b. new.told ≡ Some (overwritten b c.page_offset.result bytes))} {Q = (b : List ℕ) → new.told ≡ Some b → SpellsPage (place_bytes meta c.args.id b) c.args.page.now} c.write.result
    (page_written d new (g.met.D.Device.is_disk c.args.disk.now) c.page_offset.result bytes meta c.args.id c.args.page.now c.page_offset.ensures c.encode.ensures c.requires.has.room c.requires.has.some c.requires.has.most
    c.write.ensures.silent)
    c.write.ensures.written

pub returns-clause-place : goal.returns-clause-place
returns-clause-place g c =
    let d = g.D.Device.model c.args.disk.now in
    let new = g.D.Device.model c.write.new.self in
    let meta = c.args.meta.now in
    let bytes = c.encode.new.into in
    becomes_there d new c.page_offset.result (length bytes) meta c.args.id c.page_offset.ensures c.encode.ensures.long
    (Becomes-write c.write.result c.page_offset.result bytes d new (g.met.D.Device.is_disk c.args.disk.now) (g.met.D.Device.is_disk c.write.new.self)
    (omega (arith, c.page_offset.ensures, c.encode.ensures.long, c.requires.has.room, c.requires.has.some, c.requires.has.most)) c.write.ensures)
