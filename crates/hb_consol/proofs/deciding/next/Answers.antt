use Rattle.std.proofs.Common.{[], ◌∷◌}
use Rattle.hb_activity.specs.Deciding.{given_sight}
use Rattle.hb_activity.specs.declared.activities.Activity.TheVariants as at
use Rattle.hb_consol.proofs.MadeRows.{few_leaves, scans_there}
use Rattle.hb_consol.proofs.deciding.next.Goals as goal

pub tries-requires : goal.tries-requires
tries-requires c =
    let latched = c.args.latched in
    few_leaves latched.meta.now latched.page.now latched.layout latched.fits

pub returns-in-ConsolidatorWalk-clause-row : goal.returns-in-ConsolidatorWalk-clause-row
returns-in-ConsolidatorWalk-clause-row c =
    let latched = c.args.latched in
    rw c.in-ConsolidatorWalk.is (λ free. c.walk.ensures c.in-ConsolidatorWalk.held (given_sight latched.meta.now ((latched.id, latched.page.now) ∷ []) free))

pub returns-in-Some-clause-row : goal.returns-in-Some-clause-row
returns-in-Some-clause-row c =
    let latched = c.args.latched in
    let here = c.in-ConsolidatorScan in
    rw (here.is, c.in-Some.is) (λ free. scans_there latched.meta.now here.job here.parent latched.id c.in-Some.above.now latched.page.now free here.child _ (c.tries.ensures (at.ConsolidatorScan here.job here.parent here.child)))
