use Rattle.std.proofs.Common.{◌<◌, List, length, drop, sym, ap, subst, ◌∙◌, arith}
use Rattle.std.proofs.lemmas.Bool.{true≢false}
use Rattle.hb_activity.specs.declared.waiting_jobs.TheConstants.{JOBS}
use Rattle.hb_activity.specs.declared.jobs.Job.{Job}
use Rattle.hb_activity.specs.Queue.{AreQueued}
use Rattle.hb_activity.proofs.Facts.TakenJobs.{queued_with}
use Rattle.hb_activity.proofs.waiting_jobs.Jobs.add.Goals as goal

pub invariant_of-self : goal.invariant_of-self
invariant_of-self c =
    let same = ap (λ (jobs : List Job). length jobs) (c.as_slice.ensures.value ∙ sym c.self.view_is) in
    let few : length (drop c.self.inside.taken c.self.inside.jobs.keys) < JOBS = omega (arith, same, c.if-as_slice-ge-JOBS.false) in
    record {
      within = c.put_last-self-inside.ensures.within;
      waiting = subst AreQueued (sym c.put_last-self-inside.ensures.jobs) (queued_with (drop c.self.inside.taken c.self.inside.jobs.keys) c.args.job c.self.invariant.waiting
          (λ there. true≢false (sym (c.is_waiting.ensures.1 there) ∙ c.if-is_waiting.false)) few);
      room = c.put_last-self-inside.ensures.room;
    }

pub returns-clause-queued : goal.returns-clause-queued
returns-clause-queued c =
    let same = ap (λ (jobs : List Job). length jobs) (c.as_slice.ensures.value ∙ sym c.self.view_is) in
    let few : length (drop c.self.inside.taken c.self.inside.jobs.keys) < JOBS = omega (arith, same, c.if-as_slice-ge-JOBS.false) in
    subst AreQueued (sym c.put_last-self-inside.ensures.jobs) (queued_with (drop c.self.inside.taken c.self.inside.jobs.keys) c.args.job c.self.invariant.waiting
    (λ there. true≢false (sym (c.is_waiting.ensures.1 there) ∙ c.if-is_waiting.false)) few)
