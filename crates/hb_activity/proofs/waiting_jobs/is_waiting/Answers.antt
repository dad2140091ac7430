use Rattle.std.proofs.Common.{sym}
use Rattle.std.proofs.lemmas.Bool.{le-leb, leb-true, true≢false}
use Rattle.hb_activity.specs.contracts.jobs.JobPartialEq.TheImpl.{eq-value}
use Rattle.hb_activity.proofs.Facts.TakenJobs.{waits_behind, only_behind, waits_nowhere, same_job, itself_job}
use Rattle.hb_activity.proofs.waiting_jobs.is_waiting.Goals as goal

pub returns-in-Some : goal.returns-in-Some
returns-in-Some c = (
  λ is. waits_behind eq-value.it same_job itself_job c.args.jobs.now.keys c.args.job.now c.in-Some.place c.args.taken c.in-Some.ensures.index (leb-true c.args.taken c.in-Some.place is),
  λ there. le-leb c.args.taken c.in-Some.place (only_behind eq-value.it same_job itself_job c.args.jobs.now.keys c.args.job.now c.in-Some.place c.args.taken c.len-count.ensures.unique c.in-Some.ensures.index there),
)

pub returns-in-None : goal.returns-in-None
returns-in-None c = (
  λ is. absurd (true≢false (sym is)),
  λ there. absurd (waits_nowhere eq-value.it same_job itself_job c.args.jobs.now.keys c.args.job.now c.args.taken c.in-None.ensures.index there),
)
