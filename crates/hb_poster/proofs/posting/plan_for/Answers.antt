use Rattle.hb_poster.proofs.Facts.ParentWeights.{light_parent}
use Rattle.hb_poster.proofs.posting.plan_for.Goals as goal

pub post_plan-requires-clause-light : goal.post_plan-requires-clause-light
post_plan-requires-clause-light c = light_parent c.args.meta.now c.args.job.now c.args.over.now c.requires.below.made c.requires.below.leads
