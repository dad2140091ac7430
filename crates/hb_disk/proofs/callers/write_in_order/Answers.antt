use Rattle.std.proofs.Common.{is_err, ap, arith}
use Rattle.hb_disk.specs.Model.{overwritten}
use Rattle.hb_lemmas.proofs.Options.{some_value}
use Rattle.hb_disk.proofs.InOrder.{run_one, run_two, run_three, run_four, three_told, InTwo, wrote_one, wrote_two, wrote_three, wrote_four}
use Rattle.hb_disk.proofs.Facts.RewriteLaws.{WritesThrough-failed, WritesThrough-synced}
use Rattle.hb_disk.proofs.callers.write_in_order.Goals as goal

pub returns-in_err-write-clause-moments : goal.returns-in_err-write-clause-moments
returns-in_err-write-clause-moments g c = λ tells.
    let model = g.D.Device.model in
    let old = model c.args.disk.now in
    let t = some_value old.told tells in
    run_one old c.args.first c.args.a.now c.args.second c.args.b.now t.0 t.1 (g.met.D.Device.is_disk c.args.disk.now)
    c.write.result (model c.write.new.self) c.write.ensures

pub returns-in_err-sync-clause-moments : goal.returns-in_err-sync-clause-moments
returns-in_err-sync-clause-moments g c = λ tells.
    let model = g.D.Device.model in
    let old = model c.args.disk.now in
    let t = some_value old.told tells in
    run_two old c.args.first c.args.a.now c.args.second c.args.b.now t.0 t.1 (g.met.D.Device.is_disk c.args.disk.now)
    c.write.result (model c.write.new.self) c.write.ensures c.sync.result (model c.sync.new.self) c.sync.ensures

pub returns-in_err-write-2-clause-moments : goal.returns-in_err-write-2-clause-moments
returns-in_err-write-2-clause-moments g c = λ tells.
    let model = g.D.Device.model in
    let old = model c.args.disk.now in
    let t = some_value old.told tells in
    run_three old c.args.first c.args.a.now c.args.second c.args.b.now t.0 t.1 (g.met.D.Device.is_disk c.args.disk.now)
    c.write.result (model c.write.new.self) c.write.ensures c.sync.result (model c.sync.new.self) c.sync.ensures
    c.in_ok-write.field-0 c.in_ok-sync.field-0 c.in_ok-write.was c.in_ok-sync.was c.write-2.result (model c.write-2.new.self) c.write-2.ensures

pub returns-clause-moments : goal.returns-clause-moments
returns-clause-moments g c = λ tells.
    let model = g.D.Device.model in
    let old = model c.args.disk.now in
    let t = some_value old.told tells in
    run_four old c.args.first c.args.a.now c.args.second c.args.b.now t.0 t.1 (g.met.D.Device.is_disk c.args.disk.now)
    c.write.result (model c.write.new.self) c.write.ensures c.sync.result (model c.sync.new.self) c.sync.ensures
    c.in_ok-write.field-0 c.in_ok-sync.field-0 c.in_ok-write.was c.in_ok-sync.was c.write-2.result (model c.write-2.new.self) c.write-2.ensures
    c.sync-2.result (model c.sync-2.new.self) c.sync-2.ensures

-- What the calls so far made of the disk.
pub returns-in_err-write-clause-wrote : goal.returns-in_err-write-clause-wrote
returns-in_err-write-clause-wrote g c =
    let is_disk = g.met.D.Device.is_disk in
    let model = g.D.Device.model in
    let old = model c.args.disk.now in
    WritesThrough-failed c.write.result c.from_residual.result (λ t. overwritten (overwritten t c.args.first c.args.a.now) c.args.second c.args.b.now) (InTwo old c.args.first c.args.a.now c.args.second c.args.b.now) 1 4 old (model c.write.new.self) (ap is_err c.in_err-write.was) c.from_residual.ensures.0 (omega arith)
    (wrote_one old c.args.first c.args.a.now c.args.second c.args.b.now (is_disk c.args.disk.now) c.requires.first_inside (model c.write.new.self) (is_disk c.write.new.self) c.write.result c.write.ensures)

pub returns-in_err-sync-clause-wrote : goal.returns-in_err-sync-clause-wrote
returns-in_err-sync-clause-wrote g c =
    let is_disk = g.met.D.Device.is_disk in
    let model = g.D.Device.model in
    let old = model c.args.disk.now in
    WritesThrough-failed c.sync.result c.from_residual-in_err-sync.result (λ t. overwritten (overwritten t c.args.first c.args.a.now) c.args.second c.args.b.now) (InTwo old c.args.first c.args.a.now c.args.second c.args.b.now) 2 4 old (model c.sync.new.self) (ap is_err c.in_err-sync.was) c.from_residual-in_err-sync.ensures.0 (omega arith)
    (wrote_two old c.args.first c.args.a.now c.args.second c.args.b.now (is_disk c.args.disk.now) c.requires.first_inside (model c.write.new.self) (is_disk c.write.new.self) c.write.result c.write.ensures
    c.in_ok-write.field-0 c.in_ok-write.was c.sync.result (model c.sync.new.self) c.sync.ensures)

pub returns-in_err-write-2-clause-wrote : goal.returns-in_err-write-2-clause-wrote
returns-in_err-write-2-clause-wrote g c =
    let is_disk = g.met.D.Device.is_disk in
    let model = g.D.Device.model in
    let old = model c.args.disk.now in
    WritesThrough-failed c.write-2.result c.from_residual-in_err-write-2.result (λ t. overwritten (overwritten t c.args.first c.args.a.now) c.args.second c.args.b.now) (InTwo old c.args.first c.args.a.now c.args.second c.args.b.now) 3 4 old (model c.write-2.new.self) (ap is_err c.in_err-write-2.was) c.from_residual-in_err-write-2.ensures.0 (omega arith)
    (wrote_three old c.args.first c.args.a.now c.args.second c.args.b.now (is_disk c.args.disk.now) c.requires.first_inside (model c.write.new.self) (is_disk c.write.new.self) c.write.result c.write.ensures
    c.in_ok-write.field-0 c.in_ok-write.was c.sync.result (model c.sync.new.self) c.sync.ensures
    c.in_ok-sync.field-0 c.in_ok-sync.was c.requires.second_inside (is_disk c.sync.new.self) c.write-2.result (model c.write-2.new.self) (is_disk c.write-2.new.self) c.write-2.ensures)

pub returns-clause-wrote : goal.returns-clause-wrote
returns-clause-wrote g c =
    let is_disk = g.met.D.Device.is_disk in
    let model = g.D.Device.model in
    let old = model c.args.disk.now in
    let three = model c.write-2.new.self in
    WritesThrough-synced c.sync-2.result (λ t. overwritten (overwritten t c.args.first c.args.a.now) c.args.second c.args.b.now) (InTwo old c.args.first c.args.a.now c.args.second c.args.b.now) 4 old three (model c.sync-2.new.self) c.sync-2.ensures
    (λ t told. three_told old c.args.first c.args.a.now c.args.second c.args.b.now t told (is_disk c.args.disk.now)
    c.write.result (model c.write.new.self) c.write.ensures c.sync.result (model c.sync.new.self) c.sync.ensures
    c.in_ok-write.field-0 c.in_ok-sync.field-0 c.in_ok-write.was c.in_ok-sync.was c.write-2.result three c.write-2.ensures c.in_ok-write-2.field-0 c.in_ok-write-2.was)
    (wrote_four old c.args.first c.args.a.now c.args.second c.args.b.now (is_disk c.args.disk.now) c.requires.first_inside (model c.write.new.self) (is_disk c.write.new.self) c.write.result c.write.ensures
    c.in_ok-write.field-0 c.in_ok-write.was c.sync.result (model c.sync.new.self) c.sync.ensures
    c.in_ok-sync.field-0 c.in_ok-sync.was c.requires.second_inside (is_disk c.sync.new.self) c.write-2.result three (is_disk c.write-2.new.self) c.write-2.ensures
    c.in_ok-write-2.field-0 c.in_ok-write-2.was c.sync-2.result (model c.sync-2.new.self) c.sync-2.ensures)
