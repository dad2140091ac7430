use Rattle.std.proofs.Common.{refl}
use Rattle.std.proofs.lemmas.Result.{on_ok_weaker}
use Rattle.hb_activity.specs.declared.jobs.Job.{Job}
use Rattle.hb_activity.specs.declared.jobs.JobKind.TheVariants.{Merge}
use Rattle.hb_ops.specs.Merging.{FitsMerge}
use Rattle.hb_tidy.proofs.OwedJobs.{added_none, added_weaker}
use Rattle.hb_tidy.specs.Owed.{IsAtCorner}
use Rattle.hb_tidy.proofs.finding.owe_merge.Goals as goal

pub may_merge-requires : goal.may_merge-requires
may_merge-requires c = (c.args.area.now, c.requires)

pub owe_job-requires : goal.owe_job-requires
owe_job-requires c = (c.args.keep.now.id, c.requires.stands.above)

pub returns-then-may_merge-clause-added : goal.returns-then-may_merge-clause-added
returns-then-may_merge-clause-added c =
    let fits = c.if-may_merge.ensures.0 refl in
    on_ok_weaker c.owe_job.result
    (added_weaker c.args.meta.now.k (IsAtCorner Merge c.args.parent.now.page c.args.area.now)
    (λ (job : Job). IsAtCorner Merge c.args.parent.now.page c.args.area.now job × FitsMerge c.args.meta.now c.args.parent.now.id c.args.keep.now.id c.args.going.now.id c.args.parent.now.page c.args.keep.now.page c.args.going.now.page)
    c.args.jobs.now.items c.owe_job.new.jobs.items (λ job at. (at, fits))) c.owe_job.ensures.added

pub returns-else-may_merge-clause-added : goal.returns-else-may_merge-clause-added
returns-else-may_merge-clause-added c = added_none c.args.meta.now.k _ c.args.jobs.now.items
