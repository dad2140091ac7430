use Rattle.hb_core.specs.CoreSeen.{core_seen}
use Rattle.hb_consol.specs.ConsolidatorRows.{IsMergingOf}
use Rattle.std.proofs.Common.{inr, refl, subst, sym}
use Rattle.hb_layout.specs.declared.meta.Meta.{Meta}
use Rattle.hb_activity.specs.declared.jobs.JobKind.{JobKind}
use Rattle.hb_activity.specs.Queue.{LeavesFirst}
use Rattle.hb_core.proofs.Running.Deeds.{took_job}
use Rattle.hb_core.proofs.Running.JobsBegun.{merging_free}
use Rattle.hb_store.specs.Seen.{seen_as}
use Rattle.hb_core.proofs.state.Core.take_merging.Goals as goal

pub returns : goal.returns
returns g c = record {
  does =
      let taken = c.in-Some.ensures.taken in
      let next = c.merging_of-next.result in
      inr (
        c.in-Some.job,
        next,
        taken.of_kind,
        subst (λ (m : Meta). IsMergingOf c.in-Some.job m.height next) c.meta.ensures.meta c.merging_of-next.ensures,
        took_job c.args.actor c.in-Some.job next (core_seen c.args.self.now) (record (core_seen c.args.self.now) { jobs = c.take.new.self }) (core_seen c.stand.new.self)
            (subst (λ (k : JobKind). LeavesFirst k c.args.self.now.jobs c.in-Some.job c.take.new.self) (sym taken.of_kind) taken) refl (merging_free (seen_as c.args.self.now.store) c.in-Some.job _ next c.merging_of-next.ensures) c.meta.ensures.tied c.stand.ensures.does,
      );
  disk = c.stand.ensures.disk;
}

pub stand-requires-clause-none : goal.stand-requires-clause-none
stand-requires-clause-none g c = merging_free (seen_as c.args.self.now.store) c.in-Some.job _ c.merging_of-next.result c.merging_of-next.ensures
