use Rattle.std.proofs.Common.{sym, ◌∙◌, subst}
use Rattle.hb_layout.specs.declared.meta.Meta.{Meta}
use Rattle.hb_core.specs.CoreSeen.{core_seen, core_disk}
use Rattle.hb_tidy.proofs.Belows.{over_not_owed, over_refused}
use Rattle.hb_tidy.proofs.ChildrenSeen.{child_seen}
use Rattle.hb_tidy.proofs.Exits.{not_ok}
use Rattle.hb_tidy.proofs.OwedJobs.{added_fit}
use Rattle.hb_tidy.specs.declared.stops.TidyStop.TheVariants as stops
use Rattle.hb_tidy.specs.Finding.{BothLive}
use Rattle.hb_tidy.specs.Owed.{HasAdded, IsPosting}
use Rattle.hb_tidy.specs.Placing.{IsNotOwed, StandsBelow}
use Rattle.hb_tidy.proofs.below.look_into.Goals as goal

pub returns-in_err-given : goal.returns-in_err-given
returns-in_err-given g c =
    record {
      looks = over_refused (BothLive c.args.parent.now.id c.args.parent.now.page c.args.child.now.id c.args.child.now.page) c.from_residual.result _ (g.D.Device.model (core_disk c.args.core.now)) (core_seen c.args.core.now)
          (g.met.D.Device.is_disk (core_disk c.args.core.now)) c.requires.may c.from_residual.ensures.1;
      fit = λ all. not_ok stops.NoMemory c.from_residual.result _ c.from_residual.ensures.1;
    }

pub returns-in_err-owe_postings : goal.returns-in_err-owe_postings
returns-in_err-owe_postings g c =
    let old = core_seen c.args.core.now in
    let owed = subst (λ (meta : Meta). IsNotOwed meta c.args.parent.now.page c.args.child.now.page c.in_err-owe_postings.field-0.0) c.meta.ensures c.in_err-owe_postings.ensures.full in
    record {
      looks = over_not_owed c.args.parent.now.id c.args.child.now.id c.args.parent.now.page c.args.child.now.page c.args.area.now c.in_err-owe_postings.field-0.0 c.from_residual-in_err-owe_postings.result _ (g.D.Device.model (core_disk c.args.core.now)) old
          (g.met.D.Device.is_disk (core_disk c.args.core.now)) c.requires.may (c.requires.known.1 c.in_ok-given.ensures.area).above.leaf owed c.from_residual-in_err-owe_postings.ensures.1;
      fit = λ all. not_ok c.in_err-owe_postings.field-0.0 c.from_residual-in_err-owe_postings.result _ c.from_residual-in_err-owe_postings.ensures.1;
    }

pub returns : goal.returns
returns g c =
    let is = c.as_slice.ensures.value ∙ c.in_ok-given.ensures.leaves in
    let added = subst (λ (meta : Meta). HasAdded meta.k (IsPosting meta c.args.parent.now.page c.args.child.now.page c.args.area.now) c.args.jobs.now.items c.owe_postings.new.jobs.items) c.meta.ensures c.in_ok-owe_postings.ensures.added in
    record {
      looks = child_seen c.args.parent.now.id c.args.parent.now.page c.args.child.now.id c.args.child.now.page c.args.area.now c.as_slice.result.now c.args.jobs.now.items c.owe_postings.new.jobs.items c.find_merges.new.jobs.items c.find_merges.result
          (g.D.Device.model (core_disk c.args.core.now)) (g.D.Device.model (core_disk c.find_merges.new.core)) (core_seen c.args.core.now) (core_seen c.find_merges.new.core) (c.requires.known.1 c.in_ok-given.ensures.area).above.leaf is c.in_ok-owe_postings.ensures.none added c.find_merges.ensures.looks;
      fit = λ all. c.find_merges.ensures.fit (added_fit (core_seen c.args.core.now).store.meta.k _ c.args.jobs.now.items c.owe_postings.new.jobs.items added all);
    }

pub find_merges-requires : goal.find_merges-requires
find_merges-requires g c = record { may = c.requires.may; known = (c.requires.known.1 c.in_ok-given.ensures.area, c.as_slice-2.ensures.value ∙ c.in_ok-given.ensures.leaves) }

pub owe_postings-requires-clause-stands : goal.owe_postings-requires-clause-stands
owe_postings-requires-clause-stands g c =
    let Below : Meta → Type 0 = λ meta. StandsBelow meta c.args.parent.now.page c.args.child.now.id c.args.area.now c.args.child.now.page in
    (c.args.child.now.id, subst Below (sym c.meta.ensures) (c.requires.known.1 c.in_ok-given.ensures.area))
