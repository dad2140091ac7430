use Rattle.std.proofs.Common.{sym, subst}
use Rattle.hbpi.proofs.PutTexts.{finished_run}
use Rattle.hbpi.specs.DryParts.{EndsRun}
use Rattle.hbpi.specs.Outcome.{GetsLine, fault_line}
use Rattle.hbpi.specs.declared.statuses.Status.{Status}
use Rattle.hbpi.specs.declared.statuses.Status.TheVariants.{NoMemory}
use Rattle.hbpi.proofs.dry.run_script.Goals as goal

pub returns-in-Ok-clause-disk : goal.returns-in-Ok-clause-disk
returns-in-Ok-clause-disk g c = c.finish.ensures.hands.disk_is

pub returns-in-Ok-clause-ends : goal.returns-in-Ok-clause-ends
returns-in-Ok-clause-ends g c =
    let facts = c.in-Ok.ensures in
    let hands = c.finish.ensures.hands in
    finished_run _ (g.K.Sink.model c.answer_lines.new.sink) _ c.in-Ok.answers.put c.args.script.now.lines c.in-Ok.answers.answered.items _ c.in-Ok.answers.order.items _ c.finish.result.status
    (rw c.as_slice.ensures at facts.run) facts.put c.finish.ensures.ends hands.answered_is hands.order_is

pub returns-in-Err-clause-disk : goal.returns-in-Err-clause-disk
returns-in-Err-clause-disk g c = c.refused.ensures.disk_is

pub returns-in-Err-clause-ends : goal.returns-in-Err-clause-ends
returns-in-Err-clause-ends g c =
    let back = c.refused.ensures in
    let line = subst (λ (x : g.row.K.Denot). GetsLine (g.K.Sink.model x) (g.K.Sink.model c.refused.result.sink) (fault_line NoMemory)) c.in-Err.ensures.err back.line in
    subst (λ (x : Status). EndsRun (g.K.Sink.model c.args.sink) (g.K.Sink.model c.refused.result.sink) c.args.script.now.lines c.refused.result.answered.items c.refused.result.order.items x) (sym back.status_is)
    (line, back.none_answered, back.none_ordered)
