use Rattle.std.proofs.Common.{subst, arith}
use Rattle.std.proofs.lemmas.Grind.{common_steps}
use Rattle.hb_poster.proofs.Facts.ParentWeights.{heavy_parent}
use Rattle.hb_poster.proofs.posting.look_again.Goals as goal
use Rattle.hb_terms.specs.Plans.{IsPlan}

pub split-requires-clause-full : goal.split-requires-clause-full
split-requires-clause-full c =
    heavy_parent c.args.child.meta.now c.args.over.now c.args.child.page.now c.args.job.point c.args.child.layout c.requires.both.both.made
    (subst (IsPlan c.args.over.now c.args.child.page.now c.args.job.point c.args.child.meta.now.icap) c.in-SplitFirst.is c.in_ok-plan_for.ensures.plan)

pub returns-in-Some-clause-row : goal.returns-in-Some-clause-row
returns-in-Some-clause-row c = grind (arith, common_steps)
