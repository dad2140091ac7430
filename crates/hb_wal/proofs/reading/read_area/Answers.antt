use Rattle.std.proofs.Common.{◌≡◌, ℕ, ◌+◌, ◌-◌, ◌≤◌, List, Result, Ok, Err, IsErrOf, IsErrAnd, length, refl, sym, ap, ◌∙◌, arith}
use Rattle.hb_lemmas.proofs.Options.{at_value}
use Rattle.hb_disk.proofs.Facts.FaultLaws.{ReadsOnly-then, ReadsOnly-as, ReadsOnly-neither}
use Rattle.hb_wal.specs.Frames.{IsPayload}
use Rattle.hb_wal.specs.Reading.{stop_after}
use Rattle.hb_wal.specs.declared.heads.FrameStop.{FrameStop}
use Rattle.hb_wal.specs.declared.heads.FrameStop.TheVariants.{DiskFault}
use Rattle.hb_wal.specs.declared.heads.FrameStop.TheVariants as frame_stops
use Rattle.hb_wal.specs.declared.reading.ReadStop.{ReadStop}
use Rattle.hb_wal.specs.declared.reading.ReadStop.TheVariants as stops
use Rattle.hb_wal.proofs.Facts.FrameCounts.{frames_count}
use Rattle.hb_wal.proofs.AreaReads.{HasRead-more}
use Rattle.hb_wal.proofs.reading.read_area.Goals as goal

-- reading stops at a fault of the disk only where a frame did
fault_only : (stop : FrameStop) (before : List (List ℕ)) → stop_after stop before ≡ stops.DiskFault → stop ≡ DiskFault
fault_only frame_stops.BadLength before is = cc
fault_only frame_stops.NoMemory before is = cc
fault_only frame_stops.DiskFault before is = refl

-- want of memory is no fault of the disk
memory_only : {T : Type 0} (r : Result T ReadStop) → IsErrAnd r (λ e. e ≡ stops.NoMemory) → IsErrOf r stops.DiskFault → ⊥
memory_only (Ok v) memory failed = cc
memory_only (Err e) memory failed = cc

pub loop-payloads-preserved : goal.loop-payloads-preserved
loop-payloads-preserved g c =
    let p = c.in-Ok-Some.payload in
    let place : c.args.area + c.from.result ≡ c.args.area + (c.args.len - c.loop-payloads.left) = ap (λ (n : ℕ). c.args.area + n) c.from.ensures in
    let count : c.len.result ≡ length p.items = c.len.ensures ∙ p.ok.0 in
    let fits = at_value c.in-Ok-Some.field-0 (λ v. IsPayload v.items × (5 + length v.items ≤ c.loop-payloads.left)) p c.in-Ok-Some.field-0-is c.in-Ok-Some.ensures.fits in
    let step = HasRead-more (g.D.Device.model c.args.disk.now) (g.D.Device.model c.loop-payloads.disk) (g.D.Device.model c.read_frame.new.disk) c.args.area c.args.len c.loop-payloads.left c.loop-payloads.payloads p.items
    c.loop-payloads.invariant (λ failed. cc) c.in-Ok-Some.ensures.only fits.0 fits.1 (rw place at (rw c.in-Ok-Some.field-0-is at c.in-Ok-Some.ensures.frame)) in
    rw (c.in_ok-push-in-Ok-Some.ensures.ok, count) step

pub after-requires : goal.after-requires
after-requires g c = omega (arith, c.loop-payloads.invariant.count, frames_count c.loop-payloads.payloads, c.ranges.len.fits)

pub returns-in-Ok-None-clause-only : goal.returns-in-Ok-None-clause-only
returns-in-Ok-None-clause-only g c =
    let model = g.D.Device.model in
    let old = model c.args.disk.now in
    let now = model c.loop-payloads.disk in
    let new = model c.read_frame.new.disk in
    ReadsOnly-then old now new (λ failed. failed) c.loop-payloads.invariant.only (ReadsOnly-neither now new (λ failed. cc) (λ failed. cc) c.in-Ok-None.ensures.only)

pub returns-in_err-push-in-Ok-Some-clause-only : goal.returns-in_err-push-in-Ok-Some-clause-only
returns-in_err-push-in-Ok-Some-clause-only g c =
    let model = g.D.Device.model in
    let old = model c.args.disk.now in
    let now = model c.loop-payloads.disk in
    let new = model c.read_frame.new.disk in
    ReadsOnly-then old now new (λ failed. failed) c.loop-payloads.invariant.only (ReadsOnly-neither now new (λ failed. cc) (memory_only c.from_residual.result c.from_residual.ensures.1) c.in-Ok-Some.ensures.only)

pub returns-in-Err-clause-only : goal.returns-in-Err-clause-only
returns-in-Err-clause-only g c =
    let model = g.D.Device.model in
    let old = model c.args.disk.now in
    let now = model c.loop-payloads.disk in
    let new = model c.read_frame.new.disk in
    ReadsOnly-then old now new (λ failed. failed) c.loop-payloads.invariant.only (ReadsOnly-as now new
    (λ fails.
    let is : c.in-Err.stop ≡ DiskFault = cc in
    ap Err (c.after.ensures ∙ ap (λ (s : FrameStop). stop_after s c.loop-payloads.payloads) is)) (λ fails. ap Err (fault_only c.in-Err.stop c.loop-payloads.payloads (sym c.after.ensures ∙ (let same : c.after.result ≡ stops.DiskFault = cc in same)))) c.in-Err.ensures.only)
