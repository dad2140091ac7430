use Rattle.std.proofs.Common.{ℕ, List, arith, ap, subst, sym, ◌∙◌}
use Rattle.hb_set.specs.declared.scripts.Answered.{Answered}
use Rattle.hb_core.specs.CoreSeen.{core_seen, core_disk}
use Rattle.hb_core.specs.Runs.{HasRun}
use Rattle.hb_core.proofs.Facts.RunLines.{run_keeps_lines}
use Rattle.hb_core.proofs.Facts.RunSteps.{may_go_on}
use Rattle.hb_drive.specs.Driving.{DrivesTo}
use Rattle.hb_drive.proofs.RunParts.{room_stays}
use Rattle.hb_drive.proofs.drive.Goals as goal

pub end_run-requires-clause-may : goal.end_run-requires-clause-may
end_run-requires-clause-may g c =
    let run = c.take_steps-put.ensures.runs c.requires.may.0 c.requires.may.1 in
    (run.new, may_go_on _ c.requires.may.0 _ _ _ _ run)

pub end_run-requires-clause-room : goal.end_run-requires-clause-room
end_run-requires-clause-room g c =
    let m = c.requires.may.0 in
    let run = c.take_steps-put.ensures.runs m c.requires.may.1 in
    let kept = run_keeps_lines _ _ m _ _ (core_seen c.args.core) (core_seen c.take_steps-put.new.core) c.requires.may.1.shows run in
    room_stays _ _ _ _ c.script.ensures.lines kept c.in-Ok.ensures.numbers

pub returns : goal.returns
returns g c =
    let d = g.D.Device.model (core_disk c.args.core) in
    let put = c.take_steps-put in
    let core = core_seen put.new.core in
    let e = g.D.Device.model (core_disk put.new.core) in
    let end = c.end_run.result.end in
    let answers = put.new.answered.items in
    let before = g.K.Sink.model c.args.sink in
    let after = g.K.Sink.model c.end_run.result.sink in
    let steps = (core_seen c.args.core).steps in
    let first = put.ensures.runs c.requires.may.0 c.requires.may.1 in
    let ended = c.end_run.ensures.ends first.new (may_go_on d c.requires.may.0 _ answers e core first) in
    record {
      unbegun = λ refused. absurd (ended.begun refused);
      runs = λ begun m may.
          let R : List ℕ → Type 0 = λ actors. HasRun d m actors answers e core in
          let run = subst R (c.as_slice.ensures.value ∙ c.in-Ok.ensures.steps ∙ c.script.ensures.steps) (put.ensures.runs m may) in
          let ends = c.end_run.ensures.ends run.new (may_go_on d m steps answers e core run) in
          let A = λ (answered : List Answered). DrivesTo m steps answered d (g.D.Device.model (core_disk c.end_run.result.core)) (core_seen c.end_run.result.core) end before after in
          subst A (ap (λ answered. answered.items) (sym c.end_run.ensures.same.1))
          (rw (c.end_run.ensures.same.0) (record { run = run; text = ends.text before put.ensures.put }));
      later = omega (arith, put.ensures.put.counts.later, ended.later);
    }
