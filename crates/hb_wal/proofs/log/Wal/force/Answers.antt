use Rattle.std.proofs.Common.{refl, ap, is_err, arith}
use Rattle.hb_disk.specs.Model.{Torn}
use Rattle.hb_disk.proofs.Facts.FaultLaws.{not_failed}
use Rattle.hb_disk.proofs.Facts.RewriteLaws.{Rewrites-none, Rewrites-as}
use Rattle.hb_lemmas.proofs.Options.{some_value}
use Rattle.hb_wal.proofs.Forces.{body_inside, at_closed, wrote_within, moments_within, log_anyway, nothing_left, some_wait}
use Rattle.hb_wal.proofs.log.Wal.force.Goals as goal

pub returns-in_default-clause-moments : goal.returns-in_default-clause-moments
returns-in_default-clause-moments g c = λ tells payloads has.
    let d = g.D.Device.model c.args.disk.now in
    let b = some_value d.told tells in
    nothing_left c.args.self.now (c.in_default.ensures.none.0 refl) d (g.met.D.Device.is_disk c.args.disk.now) payloads has b.0 b.1

pub write_behind_gate-requires-clause-inside : goal.write_behind_gate-requires-clause-inside
write_behind_gate-requires-clause-inside g c =
    body_inside c.args.self.now c.frame_gate-gate.ensures.log c.in-Some.body.now (some_wait c.args.self.now.groups c.in-Some.ensures.none.1) c.in-Some.ensures.some c.frame_gate-gate.result c.frame_gate-gate.ensures.value
    (g.D.Device.model c.args.disk.now) (g.met.D.Device.is_disk c.args.disk.now) c.requires.inside

pub write_behind_gate-requires-clause-closed : goal.write_behind_gate-requires-clause-closed
write_behind_gate-requires-clause-closed g c = λ tells.
    let d = g.D.Device.model c.args.disk.now in
    let b = some_value d.told tells in
    let log = c.requires.has tells in
    at_closed c.args.self.now c.frame_gate-gate.ensures.log c.in-Some.body.now (some_wait c.args.self.now.groups c.in-Some.ensures.none.1) c.in-Some.ensures.some c.frame_gate-gate.result c.frame_gate-gate.ensures.value
    d (g.met.D.Device.is_disk c.args.disk.now) c.requires.inside log.0 log.1 b.0 b.1

pub returns-in_err-write_behind_gate-clause-moments : goal.returns-in_err-write_behind_gate-clause-moments
returns-in_err-write_behind_gate-clause-moments g c = λ tells payloads has.
    let d = g.D.Device.model c.args.disk.now in
    let b = some_value d.told tells in
    moments_within c.args.self.now c.frame_gate-gate.ensures.log c.in-Some.body.now (some_wait c.args.self.now.groups c.in-Some.ensures.none.1) c.in-Some.ensures.some c.frame_gate-gate.result c.frame_gate-gate.ensures.value
    d (g.met.D.Device.is_disk c.args.disk.now) c.requires.inside payloads has b.0 b.1 (g.D.Device.model c.write_behind_gate.new.disk) (c.write_behind_gate.ensures.moments tells)

pub returns-in_default-clause-wrote : goal.returns-in_default-clause-wrote
returns-in_default-clause-wrote g c = Rewrites-none _ c.args.self.now.area c.args.self.now.len 4 (g.D.Device.model c.args.disk.now) (g.met.D.Device.is_disk c.args.disk.now) (λ failed. cc)

pub returns-in_err-write_behind_gate-clause-wrote : goal.returns-in_err-write_behind_gate-clause-wrote
returns-in_err-write_behind_gate-clause-wrote g c =
    let d = g.D.Device.model c.args.disk.now in
    let new = g.D.Device.model c.write_behind_gate.new.disk in
    Rewrites-as c.write_behind_gate.result c.from_residual.result (Torn c.args.self.now.area c.args.self.now.len) 4 4 d new (λ _. c.from_residual.ensures.0) (λ _. ap is_err c.in_err-write_behind_gate.was) (omega arith)
    (wrote_within c.args.self.now c.frame_gate-gate.ensures.log c.in-Some.body.now (some_wait c.args.self.now.groups c.in-Some.ensures.none.1) c.in-Some.ensures.some c.frame_gate-gate.result c.frame_gate-gate.ensures.value
    d (g.met.D.Device.is_disk c.args.disk.now) c.requires.inside c.write_behind_gate.result new c.write_behind_gate.ensures.wrote.run)

pub returns-clause-wrote : goal.returns-clause-wrote
returns-clause-wrote g c =
    let d = g.D.Device.model c.args.disk.now in
    let new = g.D.Device.model c.write_behind_gate.new.disk in
    Rewrites-as c.write_behind_gate.result _ (Torn c.args.self.now.area c.args.self.now.len) 4 4 d new (λ failed. absurd (not_failed c.write_behind_gate.result c.in_ok-write_behind_gate.field-0 c.in_ok-write_behind_gate.was failed)) (λ failed. cc) (omega arith)
    (wrote_within c.args.self.now c.frame_gate-gate.ensures.log c.in-Some.body.now (some_wait c.args.self.now.groups c.in-Some.ensures.none.1) c.in-Some.ensures.some c.frame_gate-gate.result c.frame_gate-gate.ensures.value
    d (g.met.D.Device.is_disk c.args.disk.now) c.requires.inside c.write_behind_gate.result new c.write_behind_gate.ensures.wrote.run)

pub returns-clause-moments : goal.returns-clause-moments
returns-clause-moments g c = λ tells payloads has.
    let d = g.D.Device.model c.args.disk.now in
    let b = some_value d.told tells in
    moments_within c.args.self.now c.frame_gate-gate.ensures.log c.in-Some.body.now (some_wait c.args.self.now.groups c.in-Some.ensures.none.1) c.in-Some.ensures.some c.frame_gate-gate.result c.frame_gate-gate.ensures.value
    d (g.met.D.Device.is_disk c.args.disk.now) c.requires.inside payloads has b.0 b.1 (g.D.Device.model c.write_behind_gate.new.disk) (c.write_behind_gate.ensures.moments tells)

pub returns-clause-log : goal.returns-clause-log
returns-clause-log g c = λ payloads has.
    let d = g.D.Device.model c.args.disk.now in
    let new = g.D.Device.model c.write_behind_gate.new.disk in
    let done = log_anyway c.args.self.now c.frame_gate-gate.ensures.log c.in-Some.body.now (some_wait c.args.self.now.groups c.in-Some.ensures.none.1) c.in-Some.ensures.some c.frame_gate-gate.result c.frame_gate-gate.ensures.value
    d (g.met.D.Device.is_disk c.args.disk.now) c.requires.inside payloads has new c.write_behind_gate.ensures.wrote.run.became c.in_ok-write_behind_gate.ensures.wrote.written c.in_ok-write_behind_gate.ensures.wrote.lasts in
    rw c.forget.ensures done
