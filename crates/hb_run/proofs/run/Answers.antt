use Rattle.std.proofs.Common.{◌≤◌, List, length, ap, ◌∙◌, subst}
use Rattle.std.specs.Vec.{vec_capacity, vec_len}
use Rattle.hb_set.specs.declared.scripts.Answered.{Answered}
use Rattle.hb_set.specs.declared.scripts.Line.{Line}
use Rattle.hb_core.specs.CoreSeen.{core_seen, core_disk}
use Rattle.hb_run.proofs.Going.{begins, room_first}
use Rattle.hb_run.proofs.run.Goals as goal

-- the disk is one wherever a thread may run, so here too
pub run_whole-requires-clause-keeps : goal.run_whole-requires-clause-keeps
run_whole-requires-clause-keeps g c κs within =
    begins c.runs_go_on.ensures
    (record { disk = g.D.Device.model (core_disk c.args.core); core = core_seen c.args.core; sink = g.K.Sink.model c.args.sink })
    c.in-Ok.answered.items (vec_capacity c.in-Ok.answered) c.left-left.result ((g.met.D.Device g.world.𝓛 g.world.𝓜 g.world.𝓡 ((λ s x. x), (λ x. x), (λ x. x), λ x. x)).is_disk (core_disk c.args.core)) c.requires.may c.in-Ok.ensures.answered
    (λ m may. c.left-left.ensures m may.shows may.goes_on.kept)

pub invariant_of-course : goal.invariant_of-course
invariant_of-course g c =
    let may = c.requires.may in
    let left_is = c.left-left.ensures may.0 may.1.shows may.1.goes_on.kept in
    record {
      shows = ∣ record { machine = may.0; may = may.1; left_is = left_is } ∣₁;
      room = room_first (g.D.Device.model (core_disk c.args.core)) (core_seen c.args.core) may.0 (vec_len c.in-Ok.answered) c.left-left.result (vec_capacity c.in-Ok.answered) may.1
          (c.in-Ok.answered.ok.0 ∙ ap (λ (l : List Answered). length l) c.in-Ok.ensures.answered) left_is
          (subst (λ (ls : List Line). length ls ≤ vec_capacity c.in-Ok.answered) c.script.ensures.lines c.in-Ok.ensures.answers);
    }

pub returns : goal.returns
returns g c = record {
  unbegun = λ refused. absurd (c.run_whole.ensures.begun refused);
  runs = λ begun m may. c.run_whole.ensures.runs m may;
  later = c.run_whole.ensures.later;
}
