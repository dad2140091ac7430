use Rattle.hb_core.proofs.state.Core.flush.Goals as goal
use Rattle.std.proofs.Common.{inl, inr, Ok, refl, sym, ap, subst}
use Rattle.hb_core.proofs.Running.FlushTaken.{flush_failed, flush_forced, flush_idled, flush_turned, flush_written, flushed_counts}
use Rattle.hb_core.proofs.Running.ForcedShows.{with_held}
use Rattle.hb_core.proofs.Running.Touched.{IsWell, flush_failed_then, flush_idled_then, helped_well, moved_well, touched_forced, touched_home, touched_turn}
use Rattle.hb_core.proofs.Running.WrittenShows.{home_none, home_some, home_turn}
use Rattle.hb_steps.specs.declared.outcomes.Outcome.{Outcome}
use Rattle.hb_steps.specs.declared.outcomes.Outcome.TheVariants as outcomes
use Rattle.hb_core.specs.Showing.{RunningCore}
use Rattle.hb_core.specs.CoreSeen.{core_disk, core_seen}
use Rattle.hb_steps.specs.Forcing.{SaysItFlushed}
use Rattle.hb_store.specs.Seen.{held_by, seen_as, uses_of}
use Rattle.hb_store.specs.WritingHome.{IsDue}

due_well : (due : Outcome) → SaysItFlushed due → IsWell due
due_well due (inl moved) = subst IsWell (sym moved) moved_well
due_well due (inr helped) = subst IsWell (sym helped) helped_well

pub returns-in-Ok-Forced : goal.returns-in-Ok-Forced
returns-in-Ok-Forced g c =
    let which = subst (IsDue (held_by c.args.self.now.store)) c.in-Ok-Forced.field-0-is c.in-Ok-Forced.ensures.which in
    record {
      steps = λ m step runs.
          flush_forced g.D.Device.model (core_disk c.args.self.now) c.flush_step.new.self.disk (core_seen c.args.self.now) m c.args.due (seen_as c.flush_step.new.self) (uses_of c.flush_step.new.self) step
          which (c.in-Ok-Forced.ensures.forces which);
      touches = touched_forced g.D.Device.model (core_disk c.args.self.now) c.flush_step.new.self.disk (core_seen c.args.self.now) _ c.args.due (due_well c.args.due c.requires.due) (c.in-Ok-Forced.ensures.forces which).0;
      counts = flushed_counts (g.D.Device.model (core_disk c.args.self.now)) (g.D.Device.model c.flush_step.new.self.disk) (core_seen c.args.self.now) (with_held (seen_as c.flush_step.new.self) (uses_of c.flush_step.new.self) (core_seen c.args.self.now)) c.requires.may.0 c.args.due c.args.due c.requires.may.1
          (flush_forced g.D.Device.model (core_disk c.args.self.now) c.flush_step.new.self.disk (core_seen c.args.self.now) c.requires.may.0 c.args.due (seen_as c.flush_step.new.self) (uses_of c.flush_step.new.self) c.requires.may.1
          which (c.in-Ok-Forced.ensures.forces which)) refl refl;
    }

pub returns-in-Ok-Written : goal.returns-in-Ok-Written
returns-in-Ok-Written g c =
    let which = subst (IsDue (held_by c.args.self.now.store)) c.in-Ok-Written.field-0-is c.in-Ok-Written.ensures.which in
    let flushes = c.in-Ok-Written.ensures.cleans which.0 in
    record {
      steps = λ m step runs.
          flush_written g.D.Device.model (core_disk c.args.self.now) c.flush_step.new.self.disk (core_seen c.args.self.now) m c.args.due (seen_as c.flush_step.new.self) (uses_of c.flush_step.new.self) step
          _ which flushes;
      touches = touched_home g.D.Device.model (core_disk c.args.self.now) c.flush_step.new.self.disk (core_seen c.args.self.now) _ c.args.due _ (due_well c.args.due c.requires.due) which
          (home_some (g.D.Device.model (core_disk c.args.self.now)) (g.D.Device.model c.flush_step.new.self.disk) (held_by c.args.self.now.store) (held_by c.flush_step.new.self) (Ok tt) _ which.1 flushes);
      counts = flushed_counts (g.D.Device.model (core_disk c.args.self.now)) (g.D.Device.model c.flush_step.new.self.disk) (core_seen c.args.self.now) (with_held (seen_as c.flush_step.new.self) (uses_of c.flush_step.new.self) (core_seen c.args.self.now)) c.requires.may.0 c.args.due c.args.due c.requires.may.1
          (flush_written g.D.Device.model (core_disk c.args.self.now) c.flush_step.new.self.disk (core_seen c.args.self.now) c.requires.may.0 c.args.due (seen_as c.flush_step.new.self) (uses_of c.flush_step.new.self) c.requires.may.1
          _ which flushes) refl refl;
    }

pub returns-in-Ok-Switched : goal.returns-in-Ok-Switched
returns-in-Ok-Switched g c =
    let which = subst (IsDue (held_by c.args.self.now.store)) c.in-Ok-Switched.field-0-is c.in-Ok-Switched.ensures.which in
    let flushes = c.in-Ok-Switched.ensures.cleans which.0 in
    record {
      steps = λ m step runs.
          flush_turned g.D.Device.model (core_disk c.args.self.now) c.flush_step.new.self.disk (core_seen c.args.self.now) m c.args.due (seen_as c.flush_step.new.self) (uses_of c.flush_step.new.self) step
          which flushes;
      touches = touched_turn g.D.Device.model (core_disk c.args.self.now) c.flush_step.new.self.disk (core_seen c.args.self.now) _ c.args.due (due_well c.args.due c.requires.due) which
          (home_turn (g.D.Device.model (core_disk c.args.self.now)) (g.D.Device.model c.flush_step.new.self.disk) (held_by c.args.self.now.store) (held_by c.flush_step.new.self) (Ok tt) (which.1, which.2) flushes);
      counts = flushed_counts (g.D.Device.model (core_disk c.args.self.now)) (g.D.Device.model c.flush_step.new.self.disk) (core_seen c.args.self.now) (with_held (seen_as c.flush_step.new.self) (uses_of c.flush_step.new.self) (core_seen c.args.self.now)) c.requires.may.0 c.args.due c.args.due c.requires.may.1
          (flush_turned g.D.Device.model (core_disk c.args.self.now) c.flush_step.new.self.disk (core_seen c.args.self.now) c.requires.may.0 c.args.due (seen_as c.flush_step.new.self) (uses_of c.flush_step.new.self) c.requires.may.1
          which flushes) refl refl;
    }

pub returns-in-Ok-Nothing : goal.returns-in-Ok-Nothing
returns-in-Ok-Nothing g c =
    let which = subst (IsDue (held_by c.args.self.now.store)) c.in-Ok-Nothing.field-0-is c.in-Ok-Nothing.ensures.which in
    let flushes = c.in-Ok-Nothing.ensures.cleans which.0 in
    record {
      steps = λ m step runs.
          flush_idled g.D.Device.model (core_disk c.args.self.now) c.flush_step.new.self.disk (core_seen c.args.self.now) m c.args.due (seen_as c.flush_step.new.self) (uses_of c.flush_step.new.self) step
          which flushes;
      touches = flush_idled_then g.D.Device.model (core_disk c.args.self.now) c.flush_step.new.self.disk (core_seen c.args.self.now) (seen_as c.flush_step.new.self) (uses_of c.flush_step.new.self)
          (home_none (g.D.Device.model (core_disk c.args.self.now)) (g.D.Device.model c.flush_step.new.self.disk) (held_by c.args.self.now.store) (held_by c.flush_step.new.self) (Ok tt) (which.1, which.2) flushes).0.only;
      counts = flushed_counts (g.D.Device.model (core_disk c.args.self.now)) (g.D.Device.model c.flush_step.new.self.disk) (core_seen c.args.self.now) (with_held (seen_as c.flush_step.new.self) (uses_of c.flush_step.new.self) (core_seen c.args.self.now)) c.requires.may.0 c.args.due outcomes.Idle c.requires.may.1
          (flush_idled g.D.Device.model (core_disk c.args.self.now) c.flush_step.new.self.disk (core_seen c.args.self.now) c.requires.may.0 c.args.due (seen_as c.flush_step.new.self) (uses_of c.flush_step.new.self) c.requires.may.1
          which flushes) refl refl;
    }

pub returns-in-Err : goal.returns-in-Err
returns-in-Err g c = record {
  steps = λ m step runs.
      flush_failed g.D.Device.model (core_disk c.args.self.now) c.flush_step.new.self.disk (core_seen c.args.self.now) m c.args.due (seen_as c.flush_step.new.self) (uses_of c.flush_step.new.self) step
      (core_disk c.stop_for.new.self) (core_seen c.stop_for.new.self) c.stop_for.result c.stop_for.ensures.says c.stop_for.ensures.stops.does c.stop_for.ensures.stops.disk
      c.in-Err._fault c.in-Err.ensures.forces c.in-Err.ensures.cleans;
  touches =
      flush_failed_then g.D.Device.model (core_disk c.args.self.now) c.flush_step.new.self.disk (core_seen c.args.self.now) (seen_as c.flush_step.new.self) (uses_of c.flush_step.new.self)
      (core_disk c.stop_for.new.self) (core_seen c.stop_for.new.self) c.stop_for.result
      c.in-Err._fault c.in-Err.ensures.forces c.in-Err.ensures.cleans c.stop_for.ensures.says c.stop_for.ensures.stops.does c.stop_for.ensures.stops.disk;
  counts = flushed_counts (g.D.Device.model (core_disk c.args.self.now)) (g.D.Device.model (core_disk c.stop_for.new.self)) (core_seen c.args.self.now) (core_seen c.stop_for.new.self) c.requires.may.0 c.args.due c.stop_for.result c.requires.may.1
      (flush_failed g.D.Device.model (core_disk c.args.self.now) c.flush_step.new.self.disk (core_seen c.args.self.now) c.requires.may.0 c.args.due (seen_as c.flush_step.new.self) (uses_of c.flush_step.new.self) c.requires.may.1
      (core_disk c.stop_for.new.self) (core_seen c.stop_for.new.self) c.stop_for.result c.stop_for.ensures.says c.stop_for.ensures.stops.does c.stop_for.ensures.stops.disk
      c.in-Err._fault c.in-Err.ensures.forces c.in-Err.ensures.cleans)
      (ap (λ (s : RunningCore). s.taken) c.stop_for.ensures.stops.does) (ap (λ (s : RunningCore). s.done) c.stop_for.ensures.stops.does);
}
