use Rattle.std.proofs.Common.{[], ◌∷◌}
use Rattle.std.proofs.lemmas.Result.{IfOk-weaker}
use Rattle.hb_activity.specs.declared.activities.Activity.TheVariants as at
use Rattle.hb_consol.proofs.MadeRows.{tries_there, decides_there}
use Rattle.hb_consol.proofs.deciding.next_of_pair.Goals as goal

pub returns-in-ConsolidatorTry-clause-row : goal.returns-in-ConsolidatorTry-clause-row
returns-in-ConsolidatorTry-clause-row c =
    let latched = c.args.latched in
    let here = c.in-ConsolidatorTry in
    let both = rw here.is at c.requires.asked in
    rw here.is (let told = c.try_pair.ensures in λ free. tries_there latched.meta.now here.job here.parent latched.id c.args.above.now latched.page.now free here.keep here.gone c.args.kept.now both.two told.0 told.1 here.leaf _
    (told.2 (at.ConsolidatorTry here.job here.parent here.keep here.gone here.leaf)))

pub returns-in-ConsolidatorDecide-clause-row : goal.returns-in-ConsolidatorDecide-clause-row
returns-in-ConsolidatorDecide-clause-row c =
    let latched = c.args.latched in
    let here = c.in-ConsolidatorDecide in
    let both = rw here.is at c.requires.asked in
    rw here.is (IfOk-weaker c.decide.result _ _ (λ next told free. decides_there latched.meta.now here.job here.parent latched.id c.args.above.now latched.page.now free here.keep here.gone c.args.kept.now both.both.two told.0 told.1 _
    (told.2 (at.ConsolidatorDecide here.job here.parent here.keep here.gone) ((here.parent, c.args.above.now) ∷ (here.keep, c.args.kept.now) ∷ (latched.id, latched.page.now) ∷ []) free)) c.decide.ensures.row)
