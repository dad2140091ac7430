use Rattle.std.proofs.Common.{Ok, refl, sym, ap, ◌∙◌}
use Rattle.hb_core.proofs.Facts.BetweenCalls.{flusher_stands, help_touches, helped, is_flusher}
use Rattle.hb_core.proofs.Running.FlushTaken.{flush_failed, flushed_counts}
use Rattle.hb_core.proofs.Running.ForcedShows.{with_held}
use Rattle.hb_core.proofs.Running.StepTaken.{counted, flusher_step, with_taken}
use Rattle.hb_core.proofs.Running.Touched.{as_before_count, flush_failed_then}
use Rattle.hb_core.specs.CoreSeen.{core_disk, core_seen}
use Rattle.hb_core.specs.Between.{said_of_flush}
use Rattle.hb_core.specs.Showing.{RunningCore}
use Rattle.hb_steps.specs.declared.outcomes.Outcome.TheVariants as outcomes
use Rattle.hb_store.specs.Seen.{seen_as, uses_of}
use Rattle.hb_store.specs.declared.stops.StopWhy.TheVariants as stops
use Rattle.hb_core.proofs.state.Core.help.Goals as goal

pub returns-in-Ok : goal.returns-in-Ok
returns-in-Ok g c =
    let first = c.requires.0 in
    let own = counted c.saturating_add-self.result (g.D.Device.model (core_disk c.args.self.now)) (core_seen c.args.self.now) first c.requires.1 in
    record {
      which = c.in-Ok.ensures.which;
      steps = λ m step.
          let mine = counted c.saturating_add-self.result (g.D.Device.model (core_disk c.args.self.now)) (core_seen c.args.self.now) m step in
          flusher_step g.D.Device.model (core_disk c.args.self.now) c.flush_step.new.self.disk (with_taken c.saturating_add-self.result (core_seen c.args.self.now)) (with_held (seen_as c.flush_step.new.self) (uses_of c.flush_step.new.self) (with_taken c.saturating_add-self.result (core_seen c.args.self.now))) m 19 (m.activity 19) (said_of_flush (Ok c.in-Ok.flushed)) is_flusher mine
          (sym own.shows.stop ∙ c.requires.2) (mine.shows.activities 19 is_flusher) (flusher_stands (m.activity 19) (mine.goes_on.kept.classes 19))
          (helped g.D.Device.model (core_disk c.args.self.now) c.flush_step.new.self.disk (with_taken c.saturating_add-self.result (core_seen c.args.self.now)) (seen_as c.flush_step.new.self) (uses_of c.flush_step.new.self) c.in-Ok.flushed c.in-Ok.ensures.which c.in-Ok.ensures.forces c.in-Ok.ensures.cleans m mine);
      touches = as_before_count g.D.Device.model (core_disk c.args.self.now) c.flush_step.new.self.disk c.saturating_add-self.result (core_seen c.args.self.now) (with_held (seen_as c.flush_step.new.self) (uses_of c.flush_step.new.self) (with_taken c.saturating_add-self.result (core_seen c.args.self.now))) (said_of_flush (Ok c.in-Ok.flushed)) (help_touches g.D.Device.model (core_disk c.args.self.now) c.flush_step.new.self.disk (with_taken c.saturating_add-self.result (core_seen c.args.self.now)) (seen_as c.flush_step.new.self) (uses_of c.flush_step.new.self) c.in-Ok.flushed c.in-Ok.ensures.which c.in-Ok.ensures.forces c.in-Ok.ensures.cleans);
      stop = tt;
      counts = record { taken = c.saturating_add-self.ensures; done = refl; no_op = (flushed_counts (g.D.Device.model (core_disk c.args.self.now)) (g.D.Device.model c.flush_step.new.self.disk) (with_taken c.saturating_add-self.result (core_seen c.args.self.now)) (with_held (seen_as c.flush_step.new.self) (uses_of c.flush_step.new.self) (with_taken c.saturating_add-self.result (core_seen c.args.self.now))) first outcomes.Moved (said_of_flush (Ok c.in-Ok.flushed)) own (helped g.D.Device.model (core_disk c.args.self.now) c.flush_step.new.self.disk (with_taken c.saturating_add-self.result (core_seen c.args.self.now)) (seen_as c.flush_step.new.self) (uses_of c.flush_step.new.self) c.in-Ok.flushed c.in-Ok.ensures.which c.in-Ok.ensures.forces c.in-Ok.ensures.cleans first own) refl refl).no_op };
    }

pub returns-in-Err : goal.returns-in-Err
returns-in-Err g c =
    let first = c.requires.0 in
    let own = counted c.saturating_add-self.result (g.D.Device.model (core_disk c.args.self.now)) (core_seen c.args.self.now) first c.requires.1 in
    record {
      which = tt;
      steps = λ m step.
          let mine = counted c.saturating_add-self.result (g.D.Device.model (core_disk c.args.self.now)) (core_seen c.args.self.now) m step in
          flusher_step g.D.Device.model (core_disk c.args.self.now) (core_disk c.stop_for.new.self) (with_taken c.saturating_add-self.result (core_seen c.args.self.now)) (core_seen c.stop_for.new.self) m 19 (m.activity 19) (outcomes.Stopped stops.WriteFault) is_flusher mine
          (sym own.shows.stop ∙ c.requires.2) (mine.shows.activities 19 is_flusher) (flusher_stands (m.activity 19) (mine.goes_on.kept.classes 19))
          (flush_failed g.D.Device.model (core_disk c.args.self.now) c.flush_step.new.self.disk (with_taken c.saturating_add-self.result (core_seen c.args.self.now)) m outcomes.Moved (seen_as c.flush_step.new.self) (uses_of c.flush_step.new.self) mine
          (core_disk c.stop_for.new.self) (core_seen c.stop_for.new.self) (outcomes.Stopped stops.WriteFault) refl c.stop_for.ensures.stops.does c.stop_for.ensures.stops.disk c.in-Err.fault c.in-Err.ensures.forces c.in-Err.ensures.cleans);
      touches = as_before_count g.D.Device.model (core_disk c.args.self.now) (core_disk c.stop_for.new.self) c.saturating_add-self.result (core_seen c.args.self.now) (core_seen c.stop_for.new.self) (outcomes.Stopped stops.WriteFault)
          (flush_failed_then g.D.Device.model (core_disk c.args.self.now) c.flush_step.new.self.disk (with_taken c.saturating_add-self.result (core_seen c.args.self.now)) (seen_as c.flush_step.new.self) (uses_of c.flush_step.new.self)
          (core_disk c.stop_for.new.self) (core_seen c.stop_for.new.self) (outcomes.Stopped stops.WriteFault) c.in-Err.fault c.in-Err.ensures.forces c.in-Err.ensures.cleans refl c.stop_for.ensures.stops.does c.stop_for.ensures.stops.disk);
      stop = ap (λ (s : RunningCore). s.stop) c.stop_for.ensures.stops.does;
      counts = record {
        taken = ap (λ (s : RunningCore). s.taken) c.stop_for.ensures.stops.does ∙ c.saturating_add-self.ensures;
        done = ap (λ (s : RunningCore). s.done) c.stop_for.ensures.stops.does;
        no_op = (flushed_counts (g.D.Device.model (core_disk c.args.self.now)) (g.D.Device.model (core_disk c.stop_for.new.self)) (with_taken c.saturating_add-self.result (core_seen c.args.self.now)) (core_seen c.stop_for.new.self) first outcomes.Moved (outcomes.Stopped stops.WriteFault) own
            (flush_failed g.D.Device.model (core_disk c.args.self.now) c.flush_step.new.self.disk (with_taken c.saturating_add-self.result (core_seen c.args.self.now)) first outcomes.Moved (seen_as c.flush_step.new.self) (uses_of c.flush_step.new.self) own
            (core_disk c.stop_for.new.self) (core_seen c.stop_for.new.self) (outcomes.Stopped stops.WriteFault) refl c.stop_for.ensures.stops.does c.stop_for.ensures.stops.disk c.in-Err.fault c.in-Err.ensures.forces c.in-Err.ensures.cleans)
            (ap (λ (s : RunningCore). s.taken) c.stop_for.ensures.stops.does) (ap (λ (s : RunningCore). s.done) c.stop_for.ensures.stops.does)).no_op;
      };
    }
