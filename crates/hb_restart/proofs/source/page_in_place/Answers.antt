use Rattle.std.proofs.Common.{refl, arith}
use Rattle.hb_disk.proofs.Facts.FaultLaws.{ReadsOnly-as}
use Rattle.hb_store.proofs.Facts.Fetched.{placed_read}
use Rattle.hb_restart.proofs.PlaceReads.{page_read}
use Rattle.hb_restart.proofs.source.page_in_place.Goals as goal

pub returns-in-Ok-clause-there : goal.returns-in-Ok-clause-there
returns-in-Ok-clause-there g c =
    let told = (g.D.Device.model c.args.disk.now).told in
    let meta = c.args.meta.now in
    let into = c.read.new.into in
    page_read c.spelled.result told into meta c.args.id c.spelled.ensures.page
    (placed_read told c.page_offset.result into meta c.args.id c.in-Ok.ensures.bytes (omega (arith, c.told-into, c.read.auto.into)) c.page_offset.ensures)

pub returns-in-Ok-clause-only : goal.returns-in-Ok-clause-only
returns-in-Ok-clause-only g c =
    ReadsOnly-as (g.D.Device.model c.args.disk.now) (g.D.Device.model c.read.new.self) (λ e. let never : ⊥ = cc e in absurd never) (λ failed. absurd (c.spelled.ensures.memory failed)) c.in-Ok.ensures.only

pub returns-in-Err-clause-only : goal.returns-in-Err-clause-only
returns-in-Err-clause-only g c = ReadsOnly-as (g.D.Device.model c.args.disk.now) (g.D.Device.model c.read.new.self) (λ e. refl) (λ e. refl) c.in-Err.ensures.only
