use Rattle.std.proofs.Common.{is_err, ap, replicate, subst, arith}
use Rattle.hb_disk.specs.Model.{overwritten, Torn}
use Rattle.hb_disk.specs.Calls.{Writes}
use Rattle.hb_disk.proofs.Facts.FaultLaws.{not_failed}
use Rattle.hb_disk.proofs.Facts.RewriteLaws.{WritesThrough-failed, WritesThrough-as}
use Rattle.hb_wal.proofs.AreaZeros.{zero_moments, zero_wrote, sync_moments, sync_wrote, sync_done, zeroed_log}
use Rattle.hb_wal.proofs.areas.zero_area.Goals as goal

pub returns-in_err-zero-clause-moments : goal.returns-in_err-zero-clause-moments
returns-in_err-zero-clause-moments g c = λ _.
    let model = g.D.Device.model in
    let is_disk = g.met.D.Device.is_disk in
    let old = model c.args.disk.now in
    let mid = model c.zero.new.self in
    let writes = subst (λ n. Writes c.args.area (replicate n 0) c.zero.result old mid) c.from.ensures c.zero.ensures in
    zero_moments old mid c.args.area c.args.len (is_disk c.args.disk.now) c.zero.result writes

pub returns-in_err-sync-clause-moments : goal.returns-in_err-sync-clause-moments
returns-in_err-sync-clause-moments g c = λ _.
    let model = g.D.Device.model in
    let is_disk = g.met.D.Device.is_disk in
    let old = model c.args.disk.now in
    let mid = model c.zero.new.self in
    let writes = subst (λ n. Writes c.args.area (replicate n 0) c.zero.result old mid) c.from.ensures c.zero.ensures in
    sync_moments old mid c.args.area c.args.len (is_disk c.args.disk.now) c.zero.result writes c.sync.result (model c.sync.new.self) c.sync.ensures

pub returns-clause-moments : goal.returns-clause-moments
returns-clause-moments g c = λ _.
    let model = g.D.Device.model in
    let is_disk = g.met.D.Device.is_disk in
    let old = model c.args.disk.now in
    let mid = model c.zero.new.self in
    let writes = subst (λ n. Writes c.args.area (replicate n 0) c.zero.result old mid) c.from.ensures c.zero.ensures in
    sync_moments old mid c.args.area c.args.len (is_disk c.args.disk.now) c.zero.result writes c.sync.result (model c.sync.new.self) c.sync.ensures

pub returns-in_err-zero-clause-wrote : goal.returns-in_err-zero-clause-wrote
returns-in_err-zero-clause-wrote g c =
    let model = g.D.Device.model in
    let is_disk = g.met.D.Device.is_disk in
    let old = model c.args.disk.now in
    let mid = model c.zero.new.self in
    let writes = subst (λ n. Writes c.args.area (replicate n 0) c.zero.result old mid) c.from.ensures c.zero.ensures in
    WritesThrough-failed c.zero.result c.from_residual.result (λ b. overwritten b c.args.area (replicate c.args.len 0)) (Torn c.args.area c.args.len) 1 2 old mid (ap is_err c.in_err-zero.was) c.from_residual.ensures.0 (omega arith)
    (zero_wrote old mid c.args.area c.args.len (is_disk c.args.disk.now) c.zero.result writes (is_disk c.zero.new.self) c.requires.inside)

pub returns-in_err-sync-clause-wrote : goal.returns-in_err-sync-clause-wrote
returns-in_err-sync-clause-wrote g c =
    let model = g.D.Device.model in
    let is_disk = g.met.D.Device.is_disk in
    let old = model c.args.disk.now in
    let mid = model c.zero.new.self in
    let writes = subst (λ n. Writes c.args.area (replicate n 0) c.zero.result old mid) c.from.ensures c.zero.ensures in
    WritesThrough-failed c.sync.result c.from_residual-in_err-sync.result (λ b. overwritten b c.args.area (replicate c.args.len 0)) (Torn c.args.area c.args.len) 2 2 old (model c.sync.new.self) (ap is_err c.in_err-sync.was) c.from_residual-in_err-sync.ensures.0 (omega arith)
    (sync_wrote old mid c.args.area c.args.len (is_disk c.args.disk.now) c.zero.result writes (is_disk c.zero.new.self) c.requires.inside c.in_ok-zero.field-0 c.in_ok-zero.was c.sync.result (model c.sync.new.self) c.sync.ensures)

pub returns-clause-wrote : goal.returns-clause-wrote
returns-clause-wrote g c =
    let model = g.D.Device.model in
    let is_disk = g.met.D.Device.is_disk in
    let old = model c.args.disk.now in
    let mid = model c.zero.new.self in
    let writes = subst (λ n. Writes c.args.area (replicate n 0) c.zero.result old mid) c.from.ensures c.zero.ensures in
    WritesThrough-as c.sync.result _ (λ b. overwritten b c.args.area (replicate c.args.len 0)) (Torn c.args.area c.args.len) 2 old (model c.sync.new.self) (λ failed. absurd (not_failed c.sync.result c.in_ok-sync.field-0 c.in_ok-sync.was failed)) (λ failed. cc)
    (sync_done old mid c.args.area c.args.len (is_disk c.args.disk.now) c.zero.result writes (is_disk c.zero.new.self) c.requires.inside c.in_ok-zero.field-0 c.in_ok-zero.was c.sync.result (model c.sync.new.self) c.sync.ensures)

pub returns-clause-log : goal.returns-clause-log
returns-clause-log g c =
    let model = g.D.Device.model in
    let is_disk = g.met.D.Device.is_disk in
    let old = model c.args.disk.now in
    let mid = model c.zero.new.self in
    let writes = subst (λ n. Writes c.args.area (replicate n 0) c.zero.result old mid) c.from.ensures c.zero.ensures in
    zeroed_log old mid (model c.sync.new.self) c.args.area c.args.len (is_disk c.args.disk.now) c.requires.inside c.zero.result c.in_ok-zero.field-0 c.in_ok-zero.was writes
    c.sync.result c.in_ok-sync.field-0 c.in_ok-sync.was c.sync.ensures
