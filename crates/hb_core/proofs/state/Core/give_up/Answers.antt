use Rattle.std.proofs.Common.{sym, ◌∙◌}
use Rattle.hb_core.proofs.Running.Deeds.{job_given_up, line_given_up}
use Rattle.hb_core.proofs.state.Core.give_up.Goals as goal

pub returns-in-Some : goal.returns-in-Some
returns-in-Some g c = record {
  does = λ state works class is.
      line_given_up c.args.actor c.args.pins.now c.args.why state c.idle.result c.in-Some.line c.reply_for.result _ _ works class (sym c.in-Some.is ∙ is) c.reply_for.ensures c.idle.ensures c.requires.tied c.requires.pins c.stand_with.ensures.does;
  disk = c.stand_with.ensures.disk;
}

pub returns-in-None : goal.returns-in-None
returns-in-None g c = record {
  does = λ state works class is.
      job_given_up c.args.actor c.args.pins.now c.args.why state c.idle.result _ _ works class (sym c.in-None.is ∙ is) c.idle.ensures c.requires.tied c.requires.pins c.stand_with.ensures.does;
  disk = c.stand_with.ensures.disk;
}
