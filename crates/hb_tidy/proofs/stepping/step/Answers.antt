use Rattle.std.proofs.Common.{ℕ, sym, subst}
use Rattle.hb_lemmas.proofs.Options.{on_ok}
use Rattle.hb_core.specs.CoreSeen.{core_seen, core_disk}
use Rattle.hb_tidy.proofs.CallsMade.{ended_goes, step_goes}
use Rattle.hb_tidy.proofs.CountsOfSteps.{one_taken}
use Rattle.hb_tidy.proofs.Exits.{goes_exit, not_ok}
use Rattle.hb_tidy.proofs.WorkerSteps.{is_actor_for, worker_took}
use Rattle.hb_tidy.proofs.Resting.{step_rests}
use Rattle.hb_tidy.proofs.Worked.{failed_drops}
use Rattle.hb_tidy.proofs.Workers.{is_actor}
use Rattle.hb_tidy.specs.Going.{RestsBut}
use Rattle.hb_tidy.specs.Stepping.{EndsCall}
use Rattle.hb_tidy.specs.Working.{Steps}
use Rattle.hb_tidy.proofs.stepping.step.Goals as goal

pub step-outcome-requires-clause-actor : goal.step-outcome-requires-clause-actor
step-outcome-requires-clause-actor g c = is_actor c.worker_for.result (is_actor_for c.args.kind c.worker_for.result c.worker_for.ensures)

pub step-outcome-requires-clause-may : goal.step-outcome-requires-clause-may
step-outcome-requires-clause-may g c = (c.requires.may.runs.0, c.requires.may.runs.1)

pub returns-in_err-went_on : goal.returns-in_err-went_on
returns-in_err-went_on g c =
    let d = g.D.Device.model (core_disk c.args.core.now) in
    let e = g.D.Device.model (core_disk c.step-outcome.new.self) in
    let old = core_seen c.args.core.now in
    let new = core_seen c.step-outcome.new.self in
    let told = c.step-outcome.ensures in
    let is = c.worker_for.ensures in
    let may = c.requires.may in
    let took = worker_took d old c.args.kind c.worker_for.result c.step-outcome.result e new is may told.counts told.steps (g.met.D.Device.is_disk (core_disk c.args.core.now)) (g.met.D.Device.is_disk (core_disk c.step-outcome.new.self)) told.touches c.requires.rests c.requires.some in
    let within = may.laws.counts.step c.worker_for.result old new told.counts may.counts in
    record {
      goes = goes_exit c.in_err-went_on.field-0.0 c.went_on.result c.from_residual.result d e old new c.in_err-went_on.was c.from_residual.ensures.1
          (step_goes d old c.worker_for.result c.step-outcome.result e new took may c.went_on.result c.went_on.ensures within (failed_drops c.went_on.result c.in_err-went_on.field-0.0 (Steps c.worker_for.result c.step-outcome.result took.op) c.in_err-went_on.was));
      rests = not_ok c.in_err-went_on.field-0.0 c.from_residual.result _ c.from_residual.ensures.1;
      one = not_ok c.in_err-went_on.field-0.0 c.from_residual.result _ c.from_residual.ensures.1;
    }

pub returns : goal.returns
returns g c =
    let d = g.D.Device.model (core_disk c.args.core.now) in
    let e = g.D.Device.model (core_disk c.step-outcome.new.self) in
    let old = core_seen c.args.core.now in
    let new = core_seen c.step-outcome.new.self in
    let told = c.step-outcome.ensures in
    let is = c.worker_for.ensures in
    let may = c.requires.may in
    let took = worker_took d old c.args.kind c.worker_for.result c.step-outcome.result e new is may told.counts told.steps (g.met.D.Device.is_disk (core_disk c.args.core.now)) (g.met.D.Device.is_disk (core_disk c.step-outcome.new.self)) told.touches c.requires.rests c.requires.some in
    let within = may.laws.counts.step c.worker_for.result old new told.counts may.counts in
    let m = may.runs.0 in
    let shows = may.runs.1 in
    let one = told.steps m shows in
    record {
      goes = ended_goes d old c.worker_for.result c.step-outcome.result e new c.end_of.result took may within (subst (EndsCall new) c.in_ok-went_on.was c.went_on.ensures) c.end_of.ensures;
      rests = on_ok c.end_of.result _
          (subst (λ (n : ℕ). RestsBut n new) is
          (step_rests d old m e new one.0 c.worker_for.result c.step-outcome.result shows.shows one.2 one.1 (subst (λ (n : ℕ). RestsBut n old) (sym is) c.requires.rests)));
      one = on_ok c.end_of.result _ (one_taken old.taken new.taken may.left told.counts.taken);
    }
