use Rattle.std.proofs.Common.{ℕ, List, ap, sym, subst, ◌∙◌}
use Rattle.hb_core.specs.declared.endings.End.{End}
use Rattle.hbpi.specs.Counted.{counts_text, records_left}
use Rattle.hbpi.specs.Saying.{IsSaid, SaysCounts}
use Rattle.hbpi.proofs.finishing.say_counts.Goals as goal

pub returns-in-Finished : goal.returns-in-Finished
returns-in-Finished g c =
    let before = g.K.Sink.model c.args.sink.now in
    let after = g.K.Sink.model c.say.new.sink in
    let line = c.as_slice.ensures.value ∙ c.counts_line.ensures ∙ ap (counts_text c.args.answered.now) c.records_left-left.ensures in
    let said = subst (λ (t : List ℕ). IsSaid t before after c.say.result) line c.say.ensures in
    subst (λ (x : End). SaysCounts x (counts_text c.args.answered.now (records_left c.args.lines.now c.args.answered.now c.args.records)) before after c.say.result) (sym c.in-Finished.is) said
