use Rattle.hb_core.proofs.state.Core.await_place.Goals as goal
use Rattle.std.proofs.Common.{Some, refl, ap, ◌∙◌}
use Rattle.hb_steps.specs.declared.outcomes.Outcome.TheVariants as outcomes
use Rattle.hb_core.proofs.Running.Counted.{counts_so, forced_no_op, stopped_no_op}
use Rattle.hb_core.proofs.Running.PlacesAwaited.{await_answered, await_failed, await_forced, awaits_as}
use Rattle.hb_core.proofs.Running.Touched.{failed_then, kept_well, moved_well, touched_forced, untouched, well_as}
use Rattle.hb_core.specs.CoreSeen.{core_disk, core_seen}
use Rattle.hb_core.specs.Showing.{RunningCore}
use Rattle.hb_store.specs.Seen.{seen_as, uses_of}

pub answer_kept-requires : goal.answer_kept-requires
answer_kept-requires g c =
    let its = c.requires.awaits in
    record { actor = c.requires.actor; awaits = (its.0, c.args.place, its.1, its.2) }

pub returns-then-place-settled : goal.returns-then-place-settled
returns-then-place-settled g c = record {
  steps = λ m step number reply runs is.
      let said = c.answer_kept.ensures.does number c.args.place reply (step.shows.activities c.args.actor c.requires.actor ∙ ap Some is) in
      await_answered g.D.Device.model (core_disk c.args.self.now) (core_disk c.answer_kept.new.self) (core_seen c.args.self.now) m c.args.actor number c.args.place c.settled.result reply step c.settled.ensures
      (core_seen c.answer_kept.new.self) c.answer_kept.result c.requires.actor is c.if-place-settled.true said.0 said.1 c.answer_kept.ensures.disk;
  touches =
      let its = c.requires.awaits in
      let said = c.answer_kept.ensures.does its.0 c.args.place its.1 its.2 in
      untouched g.D.Device.model (core_disk c.args.self.now) (core_disk c.answer_kept.new.self) (core_seen c.args.self.now) (core_seen c.answer_kept.new.self) c.answer_kept.result
      (well_as c.answer_kept.result (outcomes.Answered its.0 its.1) said.0
      (kept_well (g.D.Device.model (core_disk c.args.self.now)) (core_seen c.args.self.now) c.requires.may.0 c.args.actor its.0 c.args.place its.1 c.requires.may.1
      (awaits_as (g.D.Device.model (core_disk c.args.self.now)) (core_seen c.args.self.now) c.requires.may.0 c.args.actor its.0 c.args.place its.1 c.requires.actor c.requires.may.1 its.2)))
      c.answer_kept.ensures.disk;
  counts =
      let its = c.requires.awaits in
      counts_so (core_seen c.args.self.now) (core_seen c.answer_kept.new.self) _ (c.answer_kept.ensures.does its.0 c.args.place its.1 its.2).1 refl refl refl;
}

pub returns-in-Ok : goal.returns-in-Ok
returns-in-Ok g c = record {
  steps = λ m step number reply runs is.
      await_forced g.D.Device.model (core_disk c.args.self.now) c.force.new.self.disk (core_seen c.args.self.now) m c.args.actor number c.args.place c.settled.result reply step c.settled.ensures
      (seen_as c.force.new.self) (uses_of c.force.new.self) c.if-place-settled.false c.in-Ok.ensures.writes c.in-Ok.ensures.uses;
  touches = touched_forced g.D.Device.model (core_disk c.args.self.now) c.force.new.self.disk (core_seen c.args.self.now) _ outcomes.Moved moved_well c.in-Ok.ensures.writes;
  counts = record { stay = record { taken = refl; done = refl }; no_op = forced_no_op (core_seen c.args.self.now).store (seen_as c.force.new.self) c.in-Ok.ensures.writes.forced };
}

pub returns-in-Err : goal.returns-in-Err
returns-in-Err g c = record {
  steps = λ m step number reply runs is.
      await_failed g.D.Device.model (core_disk c.args.self.now) c.force.new.self.disk (core_seen c.args.self.now) m c.args.actor number c.args.place c.settled.result reply step c.settled.ensures
      c.in-Err._fault (seen_as c.force.new.self) (uses_of c.force.new.self) (core_disk c.stop_for.new.self) (core_seen c.stop_for.new.self) c.stop_for.result c.if-place-settled.false c.in-Err.ensures.writes c.in-Err.ensures.uses
      c.stop_for.ensures.says c.stop_for.ensures.stops.does c.stop_for.ensures.stops.disk;
  touches =
      failed_then g.D.Device.model (core_disk c.args.self.now) c.force.new.self.disk (core_seen c.args.self.now) (seen_as c.force.new.self) (uses_of c.force.new.self) (core_disk c.stop_for.new.self) (core_seen c.stop_for.new.self) c.stop_for.result
      c.in-Err._fault c.in-Err.ensures.writes c.stop_for.ensures.says c.stop_for.ensures.stops.does c.stop_for.ensures.stops.disk;
  counts = record {
    stay = record { taken = ap (λ (s : RunningCore). s.taken) c.stop_for.ensures.stops.does; done = ap (λ (s : RunningCore). s.done) c.stop_for.ensures.stops.does };
    no_op = stopped_no_op (core_seen c.args.self.now).store (core_seen c.stop_for.new.self).store (ap (λ (s : RunningCore). s.store) c.stop_for.ensures.stops.does ∙ c.in-Err.ensures.writes.stopped);
  };
}
