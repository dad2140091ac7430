use Rattle.std.proofs.Common.{sym, ◌∙◌}
use Rattle.std.proofs.lemmas.Bool.{false≢true}
use Rattle.hb_sound.specs.Covers.{HasRule}
use Rattle.hb_sound.proofs.Firsts.{found_here, none_left, still_none}
use Rattle.hb_sound.proofs.audits.first_breaking.Goals as goal

pub returns-then-breaks : goal.returns-then-breaks
returns-then-breaks c =
    found_here (HasRule c.args.rule) c.args.facts.now.list.now c.loop-place.place c.fact-item.result c.loop-place-test.true c.fact-item.is c.loop-place.invariant
    (c.breaks.ensures.0 c.if-breaks.true)

pub loop-place-preserved : goal.loop-place-preserved
loop-place-preserved c =
    still_none (HasRule c.args.rule) c.args.facts.now.list.now c.loop-place.place c.fact-item.result c.loop-place-test.true c.fact-item.is c.loop-place.invariant
    (λ holds. false≢true (sym c.if-breaks.false ∙ c.breaks.ensures.1 holds))

pub returns : goal.returns
returns c = none_left (HasRule c.args.rule) c.args.facts.now.list.now c.loop-place.place c.loop-place-test.false c.loop-place.invariant
