use Rattle.std.proofs.Common.{◌≡◌, [], Option, None, Some, Ok, refl, sym, ◌∙◌, subst}
use Rattle.std.proofs.lemmas.Bool.{false≢true}
use Rattle.hb_activity.specs.declared.jobs.Job.{Job}
use Rattle.hb_activity.specs.declared.jobs.JobKind.TheVariants.{Merge}
use Rattle.hb_frag.specs.declared.pages.LivePage.{LivePage}
use Rattle.hb_layout.specs.declared.meta.Meta.{Meta}
use Rattle.hb_ops.specs.Files.{FileState, live_page}
use Rattle.hb_lemmas.proofs.Options.{at_value}
use Rattle.hb_ops.specs.Merging.{FitsMerge}
use Rattle.hb_ops.specs.Sound.{FitsFile}
use Rattle.hb_core.specs.CoreSeen.{core_seen, core_disk}
use Rattle.hb_tidy.proofs.Belows.{refused_then}
use Rattle.hb_tidy.proofs.CallsMade.{layout_of}
use Rattle.hb_tidy.proofs.Exits.{not_ok, ok_is, over_exit, over_value}
use Rattle.hb_tidy.proofs.Facts.Joined.{over_known}
use Rattle.hb_tidy.proofs.OwedJobs.{added_fit}
use Rattle.hb_tidy.proofs.Pairs.{pair_absent, pair_tried, pair_unnamed}
use Rattle.hb_tidy.specs.declared.stops.TidyStop.TheVariants as stops
use Rattle.hb_tidy.specs.Finding.{BothLive}
use Rattle.hb_tidy.specs.Looking.{NothingOf}
use Rattle.hb_tidy.specs.Owed.{HasAdded, IsAtCorner}
use Rattle.hb_tidy.specs.Placing.{IsChildPair}
use Rattle.hb_tidy.proofs.below.try_pair.Goals as goal

pub returns-in_err-page : goal.returns-in_err-page
returns-in_err-page g c =
    let d = g.D.Device.model (core_disk c.args.core.now) in
    let e = g.D.Device.model (core_disk c.named_page.new.core) in
    let Both = BothLive c.args.parent.now.id c.args.parent.now.page c.args.keep.now.id c.args.keep.now.page in
    let Was : Option LivePage → FileState → Type 0 = λ page s. live_page s c.args.gone ≡ page in
    record {
      looks = over_exit Both c.in_err-page.field-0.0 c.named_page.result c.from_residual.result Was _ d e (core_seen c.args.core.now) (core_seen c.named_page.new.core) c.in_err-page.was c.from_residual.ensures.1
          (over_known Both c.named_page.result Was d e (core_seen c.args.core.now) (core_seen c.named_page.new.core) c.named_page.ensures.looks);
      fit = λ all. not_ok c.in_err-page.field-0.0 c.from_residual.result _ c.from_residual.ensures.1;
    }

pub owe_merge-requires : goal.owe_merge-requires
owe_merge-requires g c =
    let old = core_seen c.args.core.now in
    let Pair : Meta → Type 0 = λ meta. IsChildPair meta c.args.parent.now.page c.args.keep.now.id c.args.area.now c.args.keep.now.page c.args.gone c.in-Some.page in
    subst Pair (sym (c.meta.ensures ∙ c.named_page.ensures.looks.meta))
    (record {
      layout = layout_of (g.D.Device.model (core_disk c.args.core.now)) old c.requires.may;
      stands = c.requires.known;
      named = c.if-names.ensures.0 refl;
      made = at_value c.in_ok-page.field-0 (FitsFile old.store.meta) c.in-Some.page c.in-Some.is c.in_ok-page.ensures.good;
    })

pub returns-in_err-owe_merge-in-Some : goal.returns-in_err-owe_merge-in-Some
returns-in_err-owe_merge-in-Some g c =
    let d = g.D.Device.model (core_disk c.args.core.now) in
    let e = g.D.Device.model (core_disk c.named_page.new.core) in
    let Both = BothLive c.args.parent.now.id c.args.parent.now.page c.args.keep.now.id c.args.keep.now.page in
    let Was : Option LivePage → FileState → Type 0 = λ page s. live_page s c.args.gone ≡ page in
    record {
      looks = refused_then Both c.in_ok-page.field-0 Was c.from_residual-in_err-owe_merge-in-Some.result _ d e (core_seen c.args.core.now) (core_seen c.named_page.new.core) (g.met.D.Device.is_disk (core_disk c.named_page.new.core)) c.in_ok-page.ensures.looks.may
          (over_known Both (Ok c.in_ok-page.field-0) Was d e (core_seen c.args.core.now) (core_seen c.named_page.new.core)
          (over_value NothingOf c.in_ok-page.field-0 c.named_page.result Was d e (core_seen c.args.core.now) (core_seen c.named_page.new.core) c.in_ok-page.was c.named_page.ensures.looks))
          c.from_residual-in_err-owe_merge-in-Some.ensures.1;
      fit = λ all. not_ok stops.NoMemory c.from_residual-in_err-owe_merge-in-Some.result _ c.from_residual-in_err-owe_merge-in-Some.ensures.1;
    }

pub returns-in_ok-owe_merge-in-Some : goal.returns-in_ok-owe_merge-in-Some
returns-in_ok-owe_merge-in-Some g c =
    let d = g.D.Device.model (core_disk c.args.core.now) in
    let e = g.D.Device.model (core_disk c.named_page.new.core) in
    let old = core_seen c.args.core.now in
    let new = core_seen c.named_page.new.core in
    let Was : Option LivePage → FileState → Type 0 = λ page s. live_page s c.args.gone ≡ page in
    let same = c.meta.ensures ∙ c.named_page.ensures.looks.meta in
    let Unfit : Meta → Type 0 = λ meta. c.owe_merge.new.jobs.items ≡ [] → (c.args.jobs.now.items ≡ []) × (¬ (FitsMerge meta c.args.parent.now.id c.args.keep.now.id c.args.gone c.args.parent.now.page c.args.keep.now.page c.in-Some.page)) in
    let Added : Meta → Type 0 = λ meta. HasAdded meta.k (λ (job : Job). IsAtCorner Merge c.args.parent.now.page c.args.area.now job × FitsMerge meta c.args.parent.now.id c.args.keep.now.id c.args.gone c.args.parent.now.page c.args.keep.now.page c.in-Some.page) c.args.jobs.now.items c.owe_merge.new.jobs.items in
    record {
      looks = pair_tried c.args.parent.now.id c.args.keep.now.id c.args.parent.now.page c.args.keep.now.page c.args.gone c.args.area.now c.args.jobs.now.items c.owe_merge.new.jobs.items c.in-Some.page d e old new c.requires.known.above.leaf
          (over_value NothingOf (Some c.in-Some.page) c.named_page.result Was d e old new (ok_is c.named_page.result c.in_ok-page.field-0 (Some c.in-Some.page) c.in_ok-page.was c.in-Some.is) c.named_page.ensures.looks)
          (subst Unfit same c.in_ok-owe_merge-in-Some.ensures.none) (subst Added same c.in_ok-owe_merge-in-Some.ensures.added);
      fit = λ all. added_fit old.store.meta.k _ c.args.jobs.now.items c.owe_merge.new.jobs.items (subst Added same c.in_ok-owe_merge-in-Some.ensures.added) all;
    }

pub returns-in-None : goal.returns-in-None
returns-in-None g c =
    let d = g.D.Device.model (core_disk c.args.core.now) in
    let e = g.D.Device.model (core_disk c.named_page.new.core) in
    let Was : Option LivePage → FileState → Type 0 = λ page s. live_page s c.args.gone ≡ page in
    record {
      looks = pair_absent c.args.parent.now.id c.args.keep.now.id c.args.parent.now.page c.args.keep.now.page c.args.gone c.args.jobs.now.items d e (core_seen c.args.core.now) (core_seen c.named_page.new.core)
          (over_value NothingOf None c.named_page.result Was d e (core_seen c.args.core.now) (core_seen c.named_page.new.core) (ok_is c.named_page.result c.in_ok-page.field-0 None c.in_ok-page.was c.in-None.is) c.named_page.ensures.looks);
      fit = λ all. all;
    }

pub returns-else-names : goal.returns-else-names
returns-else-names g c =
    record {
      looks = pair_unnamed c.args.parent.now.id c.args.keep.now.id c.args.parent.now.page c.args.keep.now.page c.args.gone c.args.jobs.now.items (g.D.Device.model (core_disk c.args.core.now)) (core_seen c.args.core.now)
          (g.met.D.Device.is_disk (core_disk c.args.core.now)) c.requires.may (λ has. false≢true (c.if-names.ensures.1 has));
      fit = λ all. all;
    }
