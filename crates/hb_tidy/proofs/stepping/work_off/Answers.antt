use Rattle.std.proofs.Common.{inl, inr, refl, sym, ◌∙◌, arith}
use Rattle.hb_core.specs.CoreSeen.{core_seen, core_disk}
use Rattle.hb_tidy.proofs.Exits.{goes_exit, goes_value}
use Rattle.hb_tidy.proofs.Facts.Joined.{goes_then}
use Rattle.hb_tidy.proofs.Resting.{is_somebody, worked_off_rests}
use Rattle.hb_tidy.proofs.RunsBegun.{goes_none}
use Rattle.hb_tidy.proofs.ToDo.{later_still}
use Rattle.hb_tidy.proofs.stepping.work_off.Goals as goal

pub loop-kind-init : goal.loop-kind-init
loop-kind-init g c = record {
  goes = goes_none (g.D.Device.model (core_disk c.args.core.now)) (core_seen c.args.core.now) (g.met.D.Device.is_disk (core_disk c.args.core.now)) c.requires.may;
  may = c.requires.may;
  rests = λ other may another. c.requires.rests other may (is_somebody other may);
  more = inr refl;
}

pub step-requires : goal.step-requires
step-requires g c = record { may = c.loop-kind.invariant.may; rests = c.loop-kind.invariant.rests; some = λ m shows. let is = c.jobs.ensures m shows in omega (arith, c.loop-kind-test.true, is) }

pub returns-in_err-step-clause-goes : goal.returns-in_err-step-clause-goes
returns-in_err-step-clause-goes g c =
    let d = g.D.Device.model (core_disk c.args.core.now) in
    let mid = g.D.Device.model (core_disk c.loop-kind.core) in
    let e = g.D.Device.model (core_disk c.step.new.core) in
    let old = core_seen c.args.core.now in
    let new = core_seen c.step.new.core in
    goes_exit c.in_err-step.field-0.0 c.step.result c.from_residual.result d e old new c.in_err-step.was c.from_residual.ensures.1
    (goes_then (tt {0}) c.step.result d mid e old (core_seen c.loop-kind.core) new c.loop-kind.invariant.goes c.step.ensures.goes)

pub loop-kind-preserved : goal.loop-kind-preserved
loop-kind-preserved g c =
    let d = g.D.Device.model (core_disk c.args.core.now) in
    let mid = g.D.Device.model (core_disk c.loop-kind.core) in
    let e = g.D.Device.model (core_disk c.step.new.core) in
    let old = core_seen c.args.core.now in
    let new = core_seen c.step.new.core in
    record {
      goes = goes_value (tt {0}) c.step.result d e old new c.in_ok-step.was (goes_then (tt {0}) c.step.result d mid e old (core_seen c.loop-kind.core) new c.loop-kind.invariant.goes c.step.ensures.goes);
      may = c.in_ok-step.ensures.goes.may;
      rests = c.in_ok-step.ensures.rests;
      more = inl (later_still core_seen c.args.core.now c.loop-kind.core new.taken c.loop-kind.invariant.more c.in_ok-step.ensures.one);
    }

pub returns-clause-rests : goal.returns-clause-rests
returns-clause-rests g c =
    let m = c.loop-kind.invariant.may.runs.0 in
    let shows = c.loop-kind.invariant.may.runs.1 in
    worked_off_rests (g.D.Device.model (core_disk c.loop-kind.core)) (core_seen c.loop-kind.core) m shows c.args.kind c.loop-kind.invariant.rests (sym (c.jobs.ensures m shows.shows) ∙ omega arith)
