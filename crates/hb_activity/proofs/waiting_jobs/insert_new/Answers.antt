use Rattle.std.proofs.Common.{◌≡◌, subst, ◌∙◌}
use Rattle.std.specs.Result.{IfOk}
use Rattle.indexmap.specs.IndexSet.{insert_key}
use Rattle.hb_activity.specs.contracts.jobs.JobPartialEq.TheImpl.{eq-value}
use Rattle.hb_activity.proofs.Facts.TakenJobs.{inserted_last}
use Rattle.hb_activity.proofs.waiting_jobs.insert_new.Goals as goal

pub returns-clause-jobs : goal.returns-clause-jobs
returns-clause-jobs c =
    subst (λ r. IfOk r (λ _. c.insert.new.self.keys ≡ insert_key eq-value.it c.args.jobs.now.keys c.args.job)) c.unwrap.ensures c.insert.ensures.keys
    ∙ inserted_last c.args.jobs.now.keys c.args.job c.requires.absent
