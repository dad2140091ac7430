use Rattle.hb_core.proofs.state.Core.step.Goals as goal
use Rattle.std.proofs.Common.{Some, inl, refl, ap, ◌∙◌}
use Rattle.hb_steps.specs.declared.outcomes.Outcome.TheVariants as outcomes
use Rattle.hb_core.proofs.Running.AgainstPlaces.{lines_have_boxes, locks_have_boxes}
use Rattle.hb_core.proofs.Running.Counted.{counts_none, counts_step, line_counts, merging_counts, no_op_still, posting_counts}
use Rattle.hb_core.proofs.Running.Touched.{as_before_count, line_well, merging_well, posting_well, untouched, untouched_stopped}
use Rattle.hb_core.proofs.Running.StepTaken.{await_step, counted, flusher_step, lies_behind, line_step, merging_step, posting_step, stopped_stays, with_taken, work_step, works_then}
use Rattle.hb_core.specs.CoreSeen.{core_disk, core_seen}

pub returns-in-Some : goal.returns-in-Some
returns-in-Some g c = record {
  steps = λ m step.
      stopped_stays (g.D.Device.model (core_disk c.args.self.now)) (with_taken c.saturating_add-self.result (core_seen c.args.self.now)) m c.args.actor c.in-Some.why c.copy_of.result
      (counted c.saturating_add-self.result (g.D.Device.model (core_disk c.args.self.now)) (core_seen c.args.self.now) m step).shows c.in-Some.is c.copy_of.ensures;
  touches = untouched_stopped g.D.Device.model (core_disk c.args.self.now) (core_disk c.args.self.now) (core_seen c.args.self.now) _ (outcomes.Stopped c.copy_of.result) c.in-Some.why c.copy_of.result c.in-Some.is c.copy_of.ensures refl;
  counts = record { taken = c.saturating_add-self.ensures; done = inl (no_op_still (core_seen c.args.self.now).store, refl) };
}

pub take_line-requires : goal.take_line-requires
take_line-requires g c = record {
  actor = c.requires.actor;
  boxes = locks_have_boxes (g.D.Device.model (core_disk c.args.self.now)) (core_seen c.args.self.now) c.requires.may.0 c.requires.may.1.shows c.requires.may.1.goes_on.kept;
  lines = lines_have_boxes (g.D.Device.model (core_disk c.args.self.now)) (core_seen c.args.self.now) c.requires.may.0 c.requires.may.1.shows c.requires.may.1.goes_on.kept;
  behind =
      lies_behind (g.D.Device.model (core_disk c.args.self.now)) (core_seen c.args.self.now) c.requires.may.0 c.args.actor c.activity.result.now c.requires.actor c.requires.may.1 c.in_default.is c.activity.ensures c.in-SessionIdle.is;
}

pub await_place-requires : goal.await_place-requires
await_place-requires g c =
    let step = counted c.saturating_add-self.result (g.D.Device.model (core_disk c.args.self.now)) (core_seen c.args.self.now) c.requires.may.0 c.requires.may.1 in
    record {
      actor = c.requires.actor;
      may = (c.requires.may.0, step, step.shows.stop ∙ c.in_default.is);
      awaits = (c.in-SessionAwait.line, c.in-SessionAwait.reply, c.activity.ensures ∙ ap Some c.in-SessionAwait.is);
    }

pub flush-requires-clause-may : goal.flush-requires-clause-may
flush-requires-clause-may g c =
    let step = counted c.saturating_add-self.result (g.D.Device.model (core_disk c.args.self.now)) (core_seen c.args.self.now) c.requires.may.0 c.requires.may.1 in
    (c.requires.may.0, step, step.shows.stop ∙ c.in_default.is)

pub work-requires : goal.work-requires
work-requires g c =
    let step = counted c.saturating_add-self.result (g.D.Device.model (core_disk c.args.self.now)) (core_seen c.args.self.now) c.requires.may.0 c.requires.may.1 in
    record {
      actor = c.requires.actor;
      may = (
        c.requires.may.0,
        step,
        step.shows.stop ∙ c.in_default.is,
        works_then (g.D.Device.model (core_disk c.args.self.now)) (with_taken c.saturating_add-self.result (core_seen c.args.self.now)) c.requires.may.0 c.args.actor c.activity.result.now c.requires.actor step c.in_default.is c.activity.ensures
            (λ number place reply is. c.in_default-activity.not-SessionAwait number reply place is) c.in_default-activity.not-SessionIdle c.in_default-activity.not-PosterIdle c.in_default-activity.not-ConsolidatorIdle c.in_default-activity.not-Flusher,
      );
    }

pub returns-in-SessionIdle : goal.returns-in-SessionIdle
returns-in-SessionIdle g c = record {
  steps = λ m step.
      let mine = counted c.saturating_add-self.result (g.D.Device.model (core_disk c.args.self.now)) (core_seen c.args.self.now) m step in
      line_step g.D.Device.model (core_disk c.args.self.now) (core_disk c.take_line.new.self) (with_taken c.saturating_add-self.result (core_seen c.args.self.now)) (core_seen c.take_line.new.self) m c.args.actor c.activity.result.now c.take_line.result
      c.requires.actor mine c.in_default.is c.activity.ensures c.in-SessionIdle.is c.take_line.ensures.disk c.take_line.ensures.does;
  touches =
      let behind = lies_behind (g.D.Device.model (core_disk c.args.self.now)) (core_seen c.args.self.now) c.requires.may.0 c.args.actor c.activity.result.now c.requires.actor c.requires.may.1 c.in_default.is c.activity.ensures c.in-SessionIdle.is in
      untouched g.D.Device.model (core_disk c.args.self.now) (core_disk c.take_line.new.self) (core_seen c.args.self.now) (core_seen c.take_line.new.self) c.take_line.result
      (line_well c.args.actor behind.0 c.take_line.result (with_taken c.saturating_add-self.result (core_seen c.args.self.now)) (core_seen c.take_line.new.self) (c.take_line.ensures.does behind.0 behind.1)) c.take_line.ensures.disk;
  counts =
      let behind = lies_behind (g.D.Device.model (core_disk c.args.self.now)) (core_seen c.args.self.now) c.requires.may.0 c.args.actor c.activity.result.now c.requires.actor c.requires.may.1 c.in_default.is c.activity.ensures c.in-SessionIdle.is in
      counts_none c.args.actor c.saturating_add-self.result (core_seen c.args.self.now) (core_seen c.take_line.new.self) c.saturating_add-self.ensures (line_counts c.args.actor behind.0 c.take_line.result (with_taken c.saturating_add-self.result (core_seen c.args.self.now)) (core_seen c.take_line.new.self) (c.take_line.ensures.does behind.0 behind.1));
}

pub returns-in-SessionAwait : goal.returns-in-SessionAwait
returns-in-SessionAwait g c = record {
  steps = λ m step.
      let mine = counted c.saturating_add-self.result (g.D.Device.model (core_disk c.args.self.now)) (core_seen c.args.self.now) m step in
      await_step g.D.Device.model (core_disk c.args.self.now) (core_disk c.await_place.new.self) (with_taken c.saturating_add-self.result (core_seen c.args.self.now)) (core_seen c.await_place.new.self) m c.args.actor c.activity.result.now c.await_place.result
      c.requires.actor mine c.in_default.is c.activity.ensures c.in-SessionAwait.line c.in-SessionAwait.place c.in-SessionAwait.reply c.in-SessionAwait.is
      (λ runs is. c.await_place.ensures.steps m mine c.in-SessionAwait.line c.in-SessionAwait.reply runs is);
  touches = as_before_count g.D.Device.model (core_disk c.args.self.now) (core_disk c.await_place.new.self) c.saturating_add-self.result (core_seen c.args.self.now) (core_seen c.await_place.new.self) c.await_place.result c.await_place.ensures.touches;
  counts = counts_none c.args.actor c.saturating_add-self.result (core_seen c.args.self.now) (core_seen c.await_place.new.self) c.saturating_add-self.ensures c.await_place.ensures.counts;
}

pub returns-in-PosterIdle : goal.returns-in-PosterIdle
returns-in-PosterIdle g c = record {
  steps = λ m step.
      let mine = counted c.saturating_add-self.result (g.D.Device.model (core_disk c.args.self.now)) (core_seen c.args.self.now) m step in
      posting_step g.D.Device.model (core_disk c.args.self.now) (core_disk c.take_posting.new.self) (with_taken c.saturating_add-self.result (core_seen c.args.self.now)) (core_seen c.take_posting.new.self) m c.args.actor c.activity.result.now c.take_posting.result
      c.requires.actor mine c.in_default.is c.activity.ensures c.in-PosterIdle.is c.take_posting.ensures.disk c.take_posting.ensures.does;
  touches = untouched g.D.Device.model (core_disk c.args.self.now) (core_disk c.take_posting.new.self) (core_seen c.args.self.now) (core_seen c.take_posting.new.self) c.take_posting.result
      (posting_well c.args.actor c.take_posting.result (with_taken c.saturating_add-self.result (core_seen c.args.self.now)) (core_seen c.take_posting.new.self) c.take_posting.ensures.does) c.take_posting.ensures.disk;
  counts = counts_none c.args.actor c.saturating_add-self.result (core_seen c.args.self.now) (core_seen c.take_posting.new.self) c.saturating_add-self.ensures (posting_counts c.args.actor c.take_posting.result (with_taken c.saturating_add-self.result (core_seen c.args.self.now)) (core_seen c.take_posting.new.self) c.take_posting.ensures.does);
}

pub returns-in_default-activity : goal.returns-in_default-activity
returns-in_default-activity g c = record {
  steps = λ m step.
      let mine = counted c.saturating_add-self.result (g.D.Device.model (core_disk c.args.self.now)) (core_seen c.args.self.now) m step in
      work_step g.D.Device.model (core_disk c.args.self.now) (core_disk c.work.new.self) (with_taken c.saturating_add-self.result (core_seen c.args.self.now)) (core_seen c.work.new.self) m c.args.actor c.activity.result.now c.work.result
      c.requires.actor mine c.in_default.is c.activity.ensures
      (works_then (g.D.Device.model (core_disk c.args.self.now)) (with_taken c.saturating_add-self.result (core_seen c.args.self.now)) m c.args.actor c.activity.result.now c.requires.actor mine c.in_default.is c.activity.ensures
      (λ number place reply is. c.in_default-activity.not-SessionAwait number reply place is) c.in_default-activity.not-SessionIdle c.in_default-activity.not-PosterIdle c.in_default-activity.not-ConsolidatorIdle c.in_default-activity.not-Flusher)
      (λ runs works. c.work.ensures.works m mine runs works);
  touches = as_before_count g.D.Device.model (core_disk c.args.self.now) (core_disk c.work.new.self) c.saturating_add-self.result (core_seen c.args.self.now) (core_seen c.work.new.self) c.work.result c.work.ensures.touches;
  counts = counts_step c.args.actor c.saturating_add-self.result (core_seen c.args.self.now) (core_seen c.work.new.self) c.saturating_add-self.ensures (c.work.ensures.counts);
}

pub returns-in-ConsolidatorIdle : goal.returns-in-ConsolidatorIdle
returns-in-ConsolidatorIdle g c = record {
  steps = λ m step.
      let mine = counted c.saturating_add-self.result (g.D.Device.model (core_disk c.args.self.now)) (core_seen c.args.self.now) m step in
      merging_step g.D.Device.model (core_disk c.args.self.now) (core_disk c.take_merging.new.self) (with_taken c.saturating_add-self.result (core_seen c.args.self.now)) (core_seen c.take_merging.new.self) m c.args.actor c.activity.result.now c.take_merging.result
      c.requires.actor mine c.in_default.is c.activity.ensures c.in-ConsolidatorIdle.is c.take_merging.ensures.disk c.take_merging.ensures.does;
  touches = untouched g.D.Device.model (core_disk c.args.self.now) (core_disk c.take_merging.new.self) (core_seen c.args.self.now) (core_seen c.take_merging.new.self) c.take_merging.result
      (merging_well c.args.actor c.take_merging.result (with_taken c.saturating_add-self.result (core_seen c.args.self.now)) (core_seen c.take_merging.new.self) c.take_merging.ensures.does) c.take_merging.ensures.disk;
  counts = counts_none c.args.actor c.saturating_add-self.result (core_seen c.args.self.now) (core_seen c.take_merging.new.self) c.saturating_add-self.ensures (merging_counts c.args.actor c.take_merging.result (with_taken c.saturating_add-self.result (core_seen c.args.self.now)) (core_seen c.take_merging.new.self) c.take_merging.ensures.does);
}

pub returns-in-Flusher : goal.returns-in-Flusher
returns-in-Flusher g c = record {
  steps = λ m step.
      let mine = counted c.saturating_add-self.result (g.D.Device.model (core_disk c.args.self.now)) (core_seen c.args.self.now) m step in
      flusher_step g.D.Device.model (core_disk c.args.self.now) (core_disk c.flush.new.self) (with_taken c.saturating_add-self.result (core_seen c.args.self.now)) (core_seen c.flush.new.self) m c.args.actor c.activity.result.now c.flush.result
      c.requires.actor mine c.in_default.is c.activity.ensures c.in-Flusher.is (c.flush.ensures.steps m mine (mine.shows.stop ∙ c.in_default.is));
  touches = as_before_count g.D.Device.model (core_disk c.args.self.now) (core_disk c.flush.new.self) c.saturating_add-self.result (core_seen c.args.self.now) (core_seen c.flush.new.self) c.flush.result c.flush.ensures.touches;
  counts = counts_none c.args.actor c.saturating_add-self.result (core_seen c.args.self.now) (core_seen c.flush.new.self) c.saturating_add-self.ensures c.flush.ensures.counts;
}
