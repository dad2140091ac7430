use Rattle.std.proofs.Common.{sym, subst}
use Rattle.std.proofs.lemmas.Result.{IfOk-weaker}
use Rattle.hbpi.specs.Schedules.{ScriptCame}
use Rattle.hbpi.specs.declared.origins.Origin.{Origin}
use Rattle.hbpi.proofs.starting.script_from.Goals as goal

pub returns-in-Drawn-clause-came : goal.returns-in-Drawn-clause-came
returns-in-Drawn-clause-came g c =
    let source = g.S.Source.model c.args.source.now in
    IfOk-weaker c.draw_script.result _ _ (λ script came. subst (λ (origin : Origin). ScriptCame origin c.args.k.number source source script.lines script.steps) (sym c.in-Drawn.is) (came source)) c.draw_script.ensures.came
