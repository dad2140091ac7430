use Rattle.std.proofs.Common.{ℕ, ◌≤◌, List, length, subst, arith, rules, length-append}
use Rattle.std.proofs.lemmas.List.{take_all}
use Rattle.std.proofs.lemmas.List.Elements.{All-get_or}
use Rattle.hb_space.specs.Actors.{IsActor}
use Rattle.hb_set.specs.declared.scripts.Answered.{Answered}
use Rattle.hb_core.specs.CoreSeen.{core_seen, core_disk}
use Rattle.hb_steps.specs.Performing.{given_by}
use Rattle.hb_core.specs.Runs.{HasRun}
use Rattle.hb_core.proofs.Facts.RunSteps.{may_go_on}
use Rattle.hb_drive.proofs.PutTexts.{has_put_none, puts_given}
use Rattle.hb_drive.proofs.RunParts.{room_for_given, run_next, run_starts}
use Rattle.hb_drive.proofs.taking.take_steps.Goals as goal

pub loop-actor-init : goal.loop-actor-init
loop-actor-init g c =
    record {
      runs = λ m may. run_starts c.runs_go_on.ensures (g.D.Device.model (core_disk c.args.core.now)) m c.args.answered.now.items (core_seen c.args.core.now) (g.met.D.Device.is_disk (core_disk c.args.core.now)) c.requires.none may;
      room = c.requires.room;
      put = has_put_none _ _ c.requires.none;
    }

pub step-outcome-requires-clause-actor : goal.step-outcome-requires-clause-actor
step-outcome-requires-clause-actor g c =
    All-get_or IsActor c.args.steps.now c.loop-actor.actor-index _ (omega arith) c.requires.actors

pub step-outcome-requires-clause-may : goal.step-outcome-requires-clause-may
step-outcome-requires-clause-may g c =
    let run = c.loop-actor.invariant.runs c.requires.may.0 c.requires.may.1 in
    (run.new, may_go_on _ c.requires.may.0 _ _ _ _ run)

pub take_answer-put-requires : goal.take_answer-put-requires
take_answer-put-requires g c =
    let step = c.step-outcome.ensures in
    let m = c.requires.may.0 in
    let fits = room_for_given c.runs_go_on.ensures
    (g.D.Device.model (core_disk c.args.core.now)) (g.D.Device.model (core_disk c.loop-actor.core)) (g.D.Device.model (core_disk c.step-outcome.new.self))
    m _ c.loop-actor.answered.items (core_seen c.args.core.now) (core_seen c.loop-actor.core) (core_seen c.step-outcome.new.self)
    _ c.clock-at.result c.step-outcome.result _ c.requires.may.1.shows c.loop-actor.invariant.room
    (record {
      disk = g.met.D.Device.is_disk (core_disk c.loop-actor.core);
      disk_next = g.met.D.Device.is_disk (core_disk c.step-outcome.new.self);
      may = All-get_or IsActor c.args.steps.now c.loop-actor.actor-index _ (omega arith) c.requires.actors;
      steps = step.steps;
      touches = step.touches;
      clock = c.clock-at.ensures;
    })
    (c.loop-actor.invariant.runs m c.requires.may.1) in
    let long = length-append {A = Answered} c.loop-actor.answered.items (given_by c.step-outcome.result c.clock-at.result) in
    omega (arith, fits, long, c.loop-actor.answered.ok.0)

pub loop-actor-preserved : goal.loop-actor-preserved
loop-actor-preserved g c =
    let step = c.step-outcome.ensures in
    let kept = c.take_answer-put.ensures.kept in
    record {
      runs = λ m may. run_next c.runs_go_on.ensures
          (g.D.Device.model (core_disk c.args.core.now)) (g.D.Device.model (core_disk c.loop-actor.core)) (g.D.Device.model (core_disk c.step-outcome.new.self))
          m c.args.steps.now c.loop-actor.actor-index c.loop-actor.answered.items _ (core_seen c.loop-actor.core) (core_seen c.step-outcome.new.self)
          _ c.clock-at.result c.step-outcome.result (omega arith) (search rules)
          (record {
            disk = g.met.D.Device.is_disk (core_disk c.loop-actor.core);
            disk_next = g.met.D.Device.is_disk (core_disk c.step-outcome.new.self);
            may = All-get_or IsActor c.args.steps.now c.loop-actor.actor-index _ (omega arith) c.requires.actors;
            steps = step.steps;
            touches = step.touches;
            clock = c.clock-at.ensures;
          })
          kept (c.loop-actor.invariant.runs m may);
      room = omega (arith, c.loop-actor.invariant.room, c.take_answer-put.ensures.room);
      put = puts_given _ (g.K.Sink.model c.loop-actor.sink) _ c.loop-actor.put _ c.loop-actor.answered.items _ (given_by c.step-outcome.result c.clock-at.result) kept c.loop-actor.invariant.put c.take_answer-put.ensures.puts;
    }

pub returns-clause-runs : goal.returns-clause-runs
returns-clause-runs g c = λ m may.
    let end : length c.args.steps.now ≤ c.loop-actor.actor-index = omega arith in
    let P : List ℕ → Type 0 = λ l. HasRun (g.D.Device.model (core_disk c.args.core.now)) m l c.loop-actor.answered.items (g.D.Device.model (core_disk c.loop-actor.core)) (core_seen c.loop-actor.core) in
    subst P (take_all c.loop-actor.actor-index c.args.steps.now end) (c.loop-actor.invariant.runs m may)
