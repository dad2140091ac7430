use Rattle.std.proofs.Common.{sym, ◌∙◌}
use Rattle.std.proofs.lemmas.Bool.{false≢true}
use Rattle.hb_sound.proofs.Loose.{loose_found, loose_not_yet, none_loose}
use Rattle.hb_sound.proofs.covers.first_loose.Goals as goal
use Rattle.hb_sound.proofs.Firsts.{item_read}

pub returns-then-is_loose_fact : goal.returns-then-is_loose_fact
returns-then-is_loose_fact c below =
    let at = item_read c.args.facts.now.list.now c.loop-place.place c.fact-item.result c.loop-place-test.true c.fact-item.is in
    loose_found c.args.facts.now.list.now c.args.named.now c.args.whole.now c.loop-place.place c.fact-item.result _ c.loop-place-test.true c.fact-item.is c.requires.same
    (c.loop-place.invariant below) ((c.is_loose_fact.ensures c.args.facts.now.list.now c.requires.firsts below at).0 c.if-is_loose_fact.true)

pub loop-place-preserved : goal.loop-place-preserved
loop-place-preserved c below =
    let at = item_read c.args.facts.now.list.now c.loop-place.place c.fact-item.result c.loop-place-test.true c.fact-item.is in
    loose_not_yet c.args.facts.now.list.now c.args.named.now c.args.whole.now c.loop-place.place c.fact-item.result _ c.loop-place-test.true c.fact-item.is c.requires.same
    (c.loop-place.invariant below) (λ loose. false≢true (sym c.if-is_loose_fact.false ∙ (c.is_loose_fact.ensures c.args.facts.now.list.now c.requires.firsts below at).1 loose))

pub returns : goal.returns
returns c below = none_loose c.args.facts.now.list.now c.args.named.now c.args.whole.now c.loop-place.place c.loop-place-test.false (c.loop-place.invariant below)
