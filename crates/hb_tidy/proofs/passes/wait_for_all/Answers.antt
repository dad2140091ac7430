use Rattle.std.proofs.Common.{◌≡◌, All, get_or, Ok, refl, sym, ◌∙◌, subst, arith, rules}
use Rattle.hb_layout.specs.declared.meta.Meta.{Meta}
use Rattle.hb_core.specs.CoreSeen.{core_seen, core_disk}
use Rattle.hb_steps.specs.KeptFits.{JobFits}
use Rattle.std.proofs.lemmas.List.Elements.{All-get_or}
use Rattle.hb_tidy.proofs.Facts.Joined.{over_known, over_then}
use Rattle.hb_tidy.proofs.JobLists.{no_first}
use Rattle.hb_tidy.proofs.KnownFiles.{still_known}
use Rattle.hb_tidy.proofs.RunsBegun.{over_none}
use Rattle.hb_tidy.specs.Looking.{NothingOf}
use Rattle.hb_tidy.specs.Owed.{IsJobOwed}
use Rattle.hb_tidy.proofs.passes.wait_for_all.Goals as goal

pub loop-job-init : goal.loop-job-init
loop-job-init g c = record {
  looks = over_known (λ s. All (IsJobOwed s) c.args.jobs.now) (Ok (tt {0})) (λ v. NothingOf) (g.D.Device.model (core_disk c.args.core.now)) (g.D.Device.model (core_disk c.args.core.now)) (core_seen c.args.core.now) (core_seen c.args.core.now)
      (over_none (g.D.Device.model (core_disk c.args.core.now)) (core_seen c.args.core.now) (g.met.D.Device.is_disk (core_disk c.args.core.now)) c.requires.may);
  may = c.requires.may;
  meta = refl;
  some = λ none. refl;
}

pub wait_for-requires : goal.wait_for-requires
wait_for-requires g c =
    let old = core_seen c.args.core.now in
    let is : c.job-item.result ≡ get_or c.args.jobs.now c.loop-job.job-index c.job-item.result = search rules in
    let Fits : Meta → Type 0 = λ meta. JobFits meta.k c.copy.result in
    still_known Fits (g.D.Device.model (core_disk c.loop-job.core)) old (core_seen c.loop-job.core) c.loop-job.invariant.may c.loop-job.invariant.meta
    (subst (JobFits old.store.meta.k) (sym (c.copy.ensures ∙ is)) (All-get_or (JobFits old.store.meta.k) c.args.jobs.now c.loop-job.job-index c.job-item.result (omega arith) c.requires.known))

pub loop-job-preserved : goal.loop-job-preserved
loop-job-preserved g c =
    let is : c.job-item.result ≡ get_or c.args.jobs.now c.loop-job.job-index c.job-item.result = search rules in
    record {
      looks = over_then (λ s. All (IsJobOwed s) c.args.jobs.now) (tt {0}) (λ v. NothingOf) (λ s. IsJobOwed s c.copy.result) (Ok (tt {0})) (λ v. NothingOf) (λ v. NothingOf)
          (g.D.Device.model (core_disk c.args.core.now)) (g.D.Device.model (core_disk c.loop-job.core)) (g.D.Device.model (core_disk c.wait_for.new.core))
          (core_seen c.args.core.now) (core_seen c.loop-job.core) (core_seen c.wait_for.new.core)
          c.loop-job.invariant.looks (λ s known said. subst (IsJobOwed s) (sym (c.copy.ensures ∙ is)) (All-get_or (IsJobOwed s) c.args.jobs.now c.loop-job.job-index c.job-item.result (omega arith) known)) c.wait_for.ensures.looks (λ s w known said more. tt);
      may = c.wait_for.ensures.looks.may;
      meta = c.wait_for.ensures.looks.meta ∙ c.loop-job.invariant.meta;
      some = λ none. absurd (c.wait_for.ensures.some none);
    }

pub returns-clause-some : goal.returns-clause-some
returns-clause-some g c = λ none. no_first c.args.jobs.now c.loop-job.job-index (omega arith) (c.loop-job.invariant.some none)
