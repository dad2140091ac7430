use Rattle.std.proofs.Common.{List, length, arith, ap, subst, sym}
use Rattle.hb_set.specs.declared.scripts.Line.{Line}
use Rattle.hb_set.specs.declared.scripts.Answered.{Answered}
use Rattle.hb_core.specs.CoreSeen.{core_seen, core_disk}
use Rattle.hb_core.proofs.Facts.RunLines.{run_keeps_lines}
use Rattle.hb_core.proofs.Facts.RunSteps.{may_go_on}
use Rattle.hb_run.specs.CourseSeen.{course_seen}
use Rattle.hb_run.specs.Running.{RunsTo}
use Rattle.hb_run.proofs.Going.{may_turn}
use Rattle.hb_run.proofs.WorkedOff.{runs_on, worked_off}
use Rattle.hb_run.proofs.whole.run_whole.Goals as goal

pub end_run-requires-clause-may : goal.end_run-requires-clause-may
end_run-requires-clause-may g c = may_turn _ (course_seen g.D.Device.model g.K.Sink.model c.work_off-over.result) c.work_off-over.ensures.keeps

pub end_run-requires-clause-room : goal.end_run-requires-clause-room
end_run-requires-clause-room g c =
    let keeps = c.work_off-over.ensures.keeps in
    let m = keeps.begun.0 in
    let same = run_keeps_lines g.N.Begun.beginning.disk (g.D.Device.model (core_disk c.work_off-over.result.core)) m keeps.actors c.work_off-over.result.answered.items g.N.Begun.beginning.core (core_seen c.work_off-over.result.core) keeps.begun.1.shows (keeps.runs m keeps.begun.1) in
    let long = ap (λ (ls : List Line). length ls) same in
    omega (arith, long, c.requires.room)

pub returns : goal.returns
returns g c =
    let keeps = c.work_off-over.ensures.keeps in
    let now = may_turn _ (course_seen g.D.Device.model g.K.Sink.model c.work_off-over.result) keeps in
    let ended = c.end_run.ensures.ends now.0 now.1 in
    let d = g.N.Begun.beginning.disk in
    let core = core_seen c.work_off-over.result.core in
    let e = g.D.Device.model (core_disk c.work_off-over.result.core) in
    let answers = c.work_off-over.result.answered.items in
    let before = g.N.Begun.beginning.sink in
    let after = g.K.Sink.model c.end_run.result.sink in
    let end = c.end_run.result.end in
    record {
      begun = ended.begun;
      runs = λ m may.
          let run = keeps.runs m may in
          let ends = c.end_run.ensures.ends run.new (may_go_on d m keeps.actors answers e core run) in
          let A = λ (answered : List Answered). RunsTo m answered d (g.D.Device.model (core_disk c.end_run.result.core)) (core_seen c.end_run.result.core) end before after in
          subst A (ap (λ answered. answered.items) (sym c.end_run.ensures.same.1))
          (rw (c.end_run.ensures.same.0) (record {
            actors = keeps.actors;
            drives = record { run = run; text = ends.text before keeps.text };
            whole = worked_off d m keeps.actors (course_seen g.D.Device.model g.K.Sink.model c.work_off-over.result) run (keeps.left_is m may) (λ runs. c.work_off-over.ensures.whole (runs_on core.stop runs));
          }));
      later = omega (arith, keeps.text.counts.later, ended.later);
    }
