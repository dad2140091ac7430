use Rattle.std.proofs.Common.{is_err, ap, ◌∷◌, arith}
use Rattle.hb_disk.specs.Model.{overwritten}
use Rattle.hb_disk.specs.Calls.{open_gate}
use Rattle.hb_lemmas.proofs.Options.{some_value, has_value}
use Rattle.hb_disk.proofs.Gate.{run_one, run_two, run_three, run_four, three_told, InFrame, wrote_one, wrote_two, wrote_three, wrote_four}
use Rattle.hb_disk.proofs.Facts.RewriteLaws.{WritesThrough-failed, WritesThrough-synced}
use Rattle.hb_disk.proofs.callers.write_behind_gate.Goals as goal

pub returns-in_err-write-clause-moments : goal.returns-in_err-write-clause-moments
returns-in_err-write-clause-moments g c = λ tells.
    let old = g.D.Device.model c.args.disk.now in
    let b = some_value old.told tells in
    run_one old c.args.gate c.args.body.now b.0 b.1 (g.met.D.Device.is_disk c.args.disk.now) c.requires.inside (c.requires.closed tells)
    c.write.result (g.D.Device.model c.write.new.self) c.write.ensures

pub returns-in_err-sync-clause-moments : goal.returns-in_err-sync-clause-moments
returns-in_err-sync-clause-moments g c = λ tells.
    let old = g.D.Device.model c.args.disk.now in
    let b = some_value old.told tells in
    run_two old c.args.gate c.args.body.now b.0 b.1 (g.met.D.Device.is_disk c.args.disk.now) c.requires.inside (c.requires.closed tells)
    c.write.result (g.D.Device.model c.write.new.self) c.write.ensures
    c.sync.result (g.D.Device.model c.sync.new.self) c.sync.ensures

pub returns-in_err-write-2-clause-moments : goal.returns-in_err-write-2-clause-moments
returns-in_err-write-2-clause-moments g c = λ tells.
    let old = g.D.Device.model c.args.disk.now in
    let b = some_value old.told tells in
    run_three old c.args.gate c.args.body.now b.0 b.1 (g.met.D.Device.is_disk c.args.disk.now) c.requires.inside (c.requires.closed tells)
    c.write.result (g.D.Device.model c.write.new.self) c.write.ensures
    c.sync.result (g.D.Device.model c.sync.new.self) c.sync.ensures
    c.in_ok-write.field-0 c.in_ok-sync.field-0 c.in_ok-write.was c.in_ok-sync.was
    c.write-2.result (g.D.Device.model c.write-2.new.self) c.write-2.ensures

pub returns-clause-moments : goal.returns-clause-moments
returns-clause-moments g c = λ tells.
    let old = g.D.Device.model c.args.disk.now in
    let b = some_value old.told tells in
    run_four old c.args.gate c.args.body.now b.0 b.1 (g.met.D.Device.is_disk c.args.disk.now) c.requires.inside (c.requires.closed tells)
    c.write.result (g.D.Device.model c.write.new.self) c.write.ensures
    c.sync.result (g.D.Device.model c.sync.new.self) c.sync.ensures
    c.in_ok-write.field-0 c.in_ok-sync.field-0 c.in_ok-write.was c.in_ok-sync.was
    c.write-2.result (g.D.Device.model c.write-2.new.self) c.write-2.ensures
    c.sync-2.result (g.D.Device.model c.sync-2.new.self) c.sync-2.ensures

-- What the calls so far made of the disk.
pub returns-in_err-write-clause-wrote : goal.returns-in_err-write-clause-wrote
returns-in_err-write-clause-wrote g c =
    let is_disk = g.met.D.Device.is_disk in
    let model = g.D.Device.model in
    let old = model c.args.disk.now in
    WritesThrough-failed c.write.result c.from_residual.result (λ b. overwritten b c.args.gate (open_gate ∷ c.args.body.now)) (InFrame old c.args.gate c.args.body.now) 1 4 old (model c.write.new.self) (ap is_err c.in_err-write.was) c.from_residual.ensures.0 (omega arith)
    (wrote_one old c.args.gate c.args.body.now (is_disk c.args.disk.now) c.requires.inside (model c.write.new.self) (is_disk c.write.new.self) c.write.result c.write.ensures)

pub returns-in_err-sync-clause-wrote : goal.returns-in_err-sync-clause-wrote
returns-in_err-sync-clause-wrote g c =
    let is_disk = g.met.D.Device.is_disk in
    let model = g.D.Device.model in
    let old = model c.args.disk.now in
    WritesThrough-failed c.sync.result c.from_residual-in_err-sync.result (λ b. overwritten b c.args.gate (open_gate ∷ c.args.body.now)) (InFrame old c.args.gate c.args.body.now) 2 4 old (model c.sync.new.self) (ap is_err c.in_err-sync.was) c.from_residual-in_err-sync.ensures.0 (omega arith)
    (wrote_two old c.args.gate c.args.body.now (is_disk c.args.disk.now) c.requires.inside (model c.write.new.self) (is_disk c.write.new.self) c.write.result c.write.ensures
    c.in_ok-write.field-0 c.in_ok-write.was c.sync.result (model c.sync.new.self) c.sync.ensures)

pub returns-in_err-write-2-clause-wrote : goal.returns-in_err-write-2-clause-wrote
returns-in_err-write-2-clause-wrote g c =
    let is_disk = g.met.D.Device.is_disk in
    let model = g.D.Device.model in
    let old = model c.args.disk.now in
    WritesThrough-failed c.write-2.result c.from_residual-in_err-write-2.result (λ b. overwritten b c.args.gate (open_gate ∷ c.args.body.now)) (InFrame old c.args.gate c.args.body.now) 3 4 old (model c.write-2.new.self) (ap is_err c.in_err-write-2.was) c.from_residual-in_err-write-2.ensures.0 (omega arith)
    (wrote_three old c.args.gate c.args.body.now (is_disk c.args.disk.now) c.requires.inside (model c.write.new.self) (is_disk c.write.new.self) c.write.result c.write.ensures
    c.in_ok-write.field-0 c.in_ok-write.was c.sync.result (model c.sync.new.self) c.sync.ensures
    c.in_ok-sync.field-0 c.in_ok-sync.was (is_disk c.sync.new.self) c.write-2.result (model c.write-2.new.self) (is_disk c.write-2.new.self) c.write-2.ensures)

pub returns-clause-wrote : goal.returns-clause-wrote
returns-clause-wrote g c =
    let is_disk = g.met.D.Device.is_disk in
    let model = g.D.Device.model in
    let old = model c.args.disk.now in
    let three = model c.write-2.new.self in
    WritesThrough-synced c.sync-2.result (λ b. overwritten b c.args.gate (open_gate ∷ c.args.body.now)) (InFrame old c.args.gate c.args.body.now) 4 old three (model c.sync-2.new.self) c.sync-2.ensures
    (λ b told. three_told old c.args.gate c.args.body.now b told (is_disk c.args.disk.now) c.requires.inside (c.requires.closed (has_value old.told b told))
    c.write.result (model c.write.new.self) c.write.ensures c.sync.result (model c.sync.new.self) c.sync.ensures
    c.in_ok-write.field-0 c.in_ok-sync.field-0 c.in_ok-write.was c.in_ok-sync.was c.write-2.result three c.write-2.ensures c.in_ok-write-2.field-0 c.in_ok-write-2.was)
    (wrote_four old c.args.gate c.args.body.now (is_disk c.args.disk.now) c.requires.inside (model c.write.new.self) (is_disk c.write.new.self) c.write.result c.write.ensures
    c.in_ok-write.field-0 c.in_ok-write.was c.sync.result (model c.sync.new.self) c.sync.ensures
    c.in_ok-sync.field-0 c.in_ok-sync.was (is_disk c.sync.new.self) c.write-2.result three (is_disk c.write-2.new.self) c.write-2.ensures
    c.in_ok-write-2.field-0 c.in_ok-write-2.was c.sync-2.result (model c.sync-2.new.self) c.sync-2.ensures)
