use Rattle.std.proofs.Common.{sym, ◌∙◌}
use Rattle.std.proofs.lemmas.Bool.{false≢true}
use Rattle.hb_sound.specs.Covers.{HasBox}
use Rattle.hb_sound.proofs.Firsts.{found_here, none_left, still_none}
use Rattle.hb_sound.proofs.covers.first_same.Goals as goal

pub returns-then-is_same : goal.returns-then-is_same
returns-then-is_same c =
    found_here (HasBox c.args.level c.args.area.now) c.args.facts.now.list.now c.loop-place.place c.fact-item.result c.loop-place-test.true c.fact-item.is c.loop-place.invariant
    (c.is_same.ensures.0 c.if-is_same.true)

pub loop-place-preserved : goal.loop-place-preserved
loop-place-preserved c =
    still_none (HasBox c.args.level c.args.area.now) c.args.facts.now.list.now c.loop-place.place c.fact-item.result c.loop-place-test.true c.fact-item.is c.loop-place.invariant
    (λ holds. false≢true (sym c.if-is_same.false ∙ c.is_same.ensures.1 holds))

pub returns : goal.returns
returns c = none_left (HasBox c.args.level c.args.area.now) c.args.facts.now.list.now c.loop-place.place c.loop-place-test.false c.loop-place.invariant
