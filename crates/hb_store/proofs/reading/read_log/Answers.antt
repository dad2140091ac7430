use Rattle.std.proofs.Common.{◌≡◌, Err, ap, length, refl, subst}
use Rattle.std.specs.Prelude.{IfSome}
use Rattle.hb_wal.specs.Frames.{HasFrames, HasBadFrame, range}
use Rattle.hb_wal.specs.Reading.{StopsAt}
use Rattle.hb_disk.proofs.Facts.FaultLaws.{ReadsOnly-as}
use Rattle.hb_store.specs.declared.touched.LogStop.TheVariants.{DiskFault}
use Rattle.hb_store.proofs.LogReads.{few_payloads, no_log_ok, no_log_bad}
use Rattle.hb_store.proofs.reading.read_log.Goals as goal

pub returns-in-Ok-clause-stopped : goal.returns-in-Ok-clause-stopped
returns-in-Ok-clause-stopped g c =
    let said = c.args.meta.now in
    let told = (g.D.Device.model c.args.disk.now).told in
    let framed = subst (λ n. IfSome told (λ b. HasFrames (range n said.log b) c.in-Ok.payloads)) c.log_start.ensures c.in-Ok.ensures.read in
    no_log_ok c.args.turn said c.in-Ok.payloads told c.replayed.result framed (c.replayed.ensures.stopped (few_payloads c.in-Ok.payloads said.log c.in-Ok.ensures.fits.1 c.requires.legal.layout.log_limit))

pub returns-in-Err-BadFrame-clause-stopped : goal.returns-in-Err-BadFrame-clause-stopped
returns-in-Err-BadFrame-clause-stopped g c =
    let said = c.args.meta.now in
    let told = (g.D.Device.model c.args.disk.now).told in
    let bad = c.in-Err-BadFrame in
    let stops = subst (λ stop. IfSome told (λ b. StopsAt stop (range c.log_start.result said.log b))) bad.field-0-is bad.ensures.stopped in
    let framed = subst (λ n. IfSome told (λ b. (bad.frame ≡ length bad.before) × HasBadFrame (range n said.log b) bad.before)) c.log_start.ensures stops in
    no_log_bad c.args.turn said bad.frame bad.before told c.before_bad.result c.requires.legal.layout.log_limit framed c.before_bad.ensures.stopped

pub returns-in-Ok-clause-only : goal.returns-in-Ok-clause-only
returns-in-Ok-clause-only g c = ReadsOnly-as (g.D.Device.model c.args.disk.now) (g.D.Device.model c.read_area.new.disk) (λ is. cc is) (λ is. absurd (c.replayed.ensures.no_fault is)) c.in-Ok.ensures.only

pub returns-in-Err-BadFrame-clause-only : goal.returns-in-Err-BadFrame-clause-only
returns-in-Err-BadFrame-clause-only g c =
    let bad = c.in-Err-BadFrame in
    ReadsOnly-as (g.D.Device.model c.args.disk.now) (g.D.Device.model c.read_area.new.disk) (λ is. cc (is, bad.field-0-is))
    (λ is. let fault : c.before_bad.result ≡ DiskFault = cc is in absurd (c.before_bad.ensures.no_fault fault)) bad.ensures.only

pub returns-in-Err-NoMemory-clause-only : goal.returns-in-Err-NoMemory-clause-only
returns-in-Err-NoMemory-clause-only g c =
    let none = c.in-Err-NoMemory in
    ReadsOnly-as (g.D.Device.model c.args.disk.now) (g.D.Device.model c.read_area.new.disk) (λ is. cc (is, none.field-0-is)) (λ is. cc is) none.ensures.only

pub returns-in-Err-DiskFault-clause-only : goal.returns-in-Err-DiskFault-clause-only
returns-in-Err-DiskFault-clause-only g c =
    let fault = c.in-Err-DiskFault in
    ReadsOnly-as (g.D.Device.model c.args.disk.now) (g.D.Device.model c.read_area.new.disk) (λ _. refl) (λ _. ap Err fault.field-0-is) fault.ensures.only
