use Rattle.std.proofs.Common.{sym, ◌∙◌}
use Rattle.std.proofs.lemmas.Bool.{false≢true}
use Rattle.hb_sound.proofs.LeftOut.{left_found, left_not_yet, none_left_out}
use Rattle.hb_sound.proofs.chains.first_left_out.Goals as goal

pub returns-then-is_left_out : goal.returns-then-is_left_out
returns-then-is_left_out c chain chained =
    left_found c.args.facts.now.list.now c.args.chained.now chain c.loop-place.place c.fact-item.result _ c.loop-place-test.true c.fact-item.is c.requires chained
    (c.loop-place.invariant chain chained) (c.is_left_out.ensures.0 c.if-is_left_out.true)

pub loop-place-preserved : goal.loop-place-preserved
loop-place-preserved c chain chained =
    left_not_yet c.args.facts.now.list.now c.args.chained.now chain c.loop-place.place c.fact-item.result _ c.loop-place-test.true c.fact-item.is c.requires chained
    (c.loop-place.invariant chain chained) (λ free. false≢true (sym c.if-is_left_out.false ∙ c.is_left_out.ensures.1 free))

pub returns : goal.returns
returns c chain chained = none_left_out c.args.facts.now.list.now chain c.loop-place.place c.loop-place-test.false (c.loop-place.invariant chain chained)
