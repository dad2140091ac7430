use Rattle.std.proofs.Common.{List, ℕ, Result, sym, subst, ◌∙◌}
use Rattle.hb_core.specs.declared.counts.TidyCounts.{TidyCounts}
use Rattle.hb_tidy.specs.declared.stops.TidyStop.{TidyStop}
use Rattle.hbpi.specs.Saying.{IsSaid}
use Rattle.hbpi.specs.TidyRuns.{SaysTidied}
use Rattle.hbpi.proofs.tidy_file.say_tidied.Goals as goal

pub returns-in-Ok : goal.returns-in-Ok
returns-in-Ok g c =
    let before = g.K.Sink.model c.args.sink.now in
    let after = g.K.Sink.model c.say.new.sink in
    subst (λ (r : Result TidyCounts TidyStop). SaysTidied r before after c.say.result) (sym c.in-Ok.is)
    (subst (λ (line : List ℕ). IsSaid line before after c.say.result) (c.as_slice.ensures.value ∙ c.tidied_line.ensures) c.say.ensures)
