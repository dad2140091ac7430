use Rattle.std.proofs.Common.{◌≡◌, All, length, Option, IsSome, Ok, OnOk, sym, ◌∙◌, subst}
use Rattle.hb_activity.specs.declared.jobs.JobKind.TheVariants.{Post}
use Rattle.hb_frag.specs.declared.pages.LivePage.{LivePage}
use Rattle.hb_lemmas.proofs.Options.{at_value, if_value}
use Rattle.hb_layout.specs.declared.meta.Meta.{Meta}
use Rattle.hb_ops.specs.Files.{FileState, live_page}
use Rattle.hb_ops.specs.Sound.{FitsFile}
use Rattle.hb_core.specs.CoreSeen.{core_seen, core_disk}
use Rattle.hb_steps.specs.KeptFits.{JobFits}
use Rattle.hb_tidy.proofs.Belows.{refused_then}
use Rattle.hb_tidy.proofs.ChildrenSeen.{child_owed, child_then}
use Rattle.hb_tidy.proofs.ChildrenThere.{child_stands}
use Rattle.hb_tidy.proofs.Exits.{not_ok, over_exit, over_value}
use Rattle.hb_tidy.proofs.Facts.Joined.{over_known}
use Rattle.hb_tidy.proofs.KnownFiles.{still_known}
use Rattle.hb_tidy.proofs.OwedJobs.{added_fit}
use Rattle.hb_tidy.proofs.PlacedLeaves.{leaf_attributes, stands_there}
use Rattle.hb_tidy.specs.declared.stops.TidyStop.TheVariants as stops
use Rattle.hb_tidy.specs.Finding.{HasPage}
use Rattle.hb_tidy.specs.Looking.{LooksOver, NothingOf}
use Rattle.hb_tidy.specs.Owed.{HasAdded, IsAtCorner}
use Rattle.hb_tidy.specs.Placing.{HasPlacedChild}
use Rattle.hb_tidy.proofs.below.look_below.Goals as goal

pub returns-in_err-seen : goal.returns-in_err-seen
returns-in_err-seen g c =
    let d = g.D.Device.model (core_disk c.args.core.now) in
    let e = g.D.Device.model (core_disk c.named_page.new.core) in
    let Above : FileState → Type 0 = HasPage c.args.parent.now.id c.args.parent.now.page in
    let Was : Option LivePage → FileState → Type 0 = λ page s. live_page s c.args.name ≡ page in
    record {
      looks = over_exit Above c.in_err-seen.field-0.0 c.named_page.result c.from_residual.result Was _ d e (core_seen c.args.core.now) (core_seen c.named_page.new.core) c.in_err-seen.was c.from_residual.ensures.1
          (over_known Above c.named_page.result Was d e (core_seen c.args.core.now) (core_seen c.named_page.new.core) c.named_page.ensures.looks);
      fit = λ all. not_ok c.in_err-seen.field-0.0 c.from_residual.result _ c.from_residual.ensures.1;
    }

pub standing-requires : goal.standing-requires
standing-requires g c =
    let old = (core_seen c.args.core.now).store.meta in
    if_value c.in_ok-seen.seen (λ (page : LivePage). length c.args.area.now.lo ≡ length page.area.lo)
    (λ page is.
    let good = at_value c.in_ok-seen.seen (FitsFile old) page is c.in_ok-seen.ensures.good in
    leaf_attributes old c.args.parent.now.page c.args.name c.args.area.now c.requires.known.made c.requires.known.leaf ∙ sym good.fits.attributes)

pub look_into-requires : goal.look_into-requires
look_into-requires g c =
    let old = (core_seen c.args.core.now).store.meta in
    let stands = at_value c.standing.result _ c.in-Some.page c.in-Some.is c.standing.ensures.some in
    let good = at_value c.in_ok-seen.seen (FitsFile old) c.in-Some.page stands.0 c.in_ok-seen.ensures.good in
    still_known _ (g.D.Device.model (core_disk c.named_page.new.core)) (core_seen c.args.core.now) (core_seen c.named_page.new.core) c.in_ok-seen.ensures.looks.may c.named_page.ensures.looks.meta
    (good, λ below. stands_there old c.args.parent.now.page c.args.name c.args.area.now c.requires.known.made c.requires.known.leaf c.in-Some.page c.requires.known.whole good (stands.1, stands.2) below)

pub returns-in-Some : goal.returns-in-Some
returns-in-Some g c =
    let d = g.D.Device.model (core_disk c.args.core.now) in
    let e = g.D.Device.model (core_disk c.named_page.new.core) in
    let f = g.D.Device.model (core_disk c.look_into.new.core) in
    let old = core_seen c.args.core.now in
    let mid = core_seen c.named_page.new.core in
    let Above : FileState → Type 0 = HasPage c.args.parent.now.id c.args.parent.now.page in
    let Was : Option LivePage → FileState → Type 0 = λ page s. live_page s c.args.name ≡ page in
    let IsThere : Option LivePage → FileState → Type 0 = λ seen s. IsSome seen × (live_page s c.args.name ≡ seen) in
    let seen = over_value NothingOf c.in_ok-seen.seen c.named_page.result Was d e old mid c.in_ok-seen.was c.named_page.ensures.looks in
    let there = child_stands c.args.parent.now.id c.args.parent.now.page c.args.name c.args.area.now c.in_ok-seen.seen c.standing.result d e old mid c.requires.known.leaf c.standing.ensures.some c.standing.ensures.none seen in
    let Fit : Meta → Type 0 = λ meta. All (JobFits meta.k) c.args.jobs.now.items → OnOk c.look_into.result (All (JobFits meta.k) c.look_into.new.jobs.items) in
    record {
      looks = child_then c.args.parent.now.id c.args.parent.now.page c.args.name c.in-Some.page c.args.area.now c.args.jobs.now.items c.look_into.new.jobs.items c.look_into.result d e f old mid (core_seen c.look_into.new.core)
          (subst (λ (o : Option LivePage). LooksOver Above (Ok o) IsThere d old e mid) c.in-Some.is there) c.look_into.ensures.looks;
      fit = subst Fit c.named_page.ensures.looks.meta c.look_into.ensures.fit;
    }

pub owe_job-requires : goal.owe_job-requires
owe_job-requires g c =
    let Placed : Meta → Type 0 = λ meta. HasPlacedChild meta c.args.parent.now.page c.args.name c.args.area.now in
    (c.args.name, subst Placed (sym (c.meta.ensures ∙ c.named_page.ensures.looks.meta)) c.requires.known)

pub returns-in_err-owe_job-in-None : goal.returns-in_err-owe_job-in-None
returns-in_err-owe_job-in-None g c =
    let d = g.D.Device.model (core_disk c.args.core.now) in
    let e = g.D.Device.model (core_disk c.named_page.new.core) in
    let old = core_seen c.args.core.now in
    let mid = core_seen c.named_page.new.core in
    let Above : FileState → Type 0 = HasPage c.args.parent.now.id c.args.parent.now.page in
    let Was : Option LivePage → FileState → Type 0 = λ page s. live_page s c.args.name ≡ page in
    record {
      looks = refused_then Above c.in_ok-seen.seen Was c.from_residual-in_err-owe_job-in-None.result _ d e old mid (g.met.D.Device.is_disk (core_disk c.named_page.new.core)) c.in_ok-seen.ensures.looks.may
          (over_known Above (Ok c.in_ok-seen.seen) Was d e old mid (over_value NothingOf c.in_ok-seen.seen c.named_page.result Was d e old mid c.in_ok-seen.was c.named_page.ensures.looks))
          c.from_residual-in_err-owe_job-in-None.ensures.1;
      fit = λ all. not_ok stops.NoMemory c.from_residual-in_err-owe_job-in-None.result _ c.from_residual-in_err-owe_job-in-None.ensures.1;
    }

pub returns-in_ok-owe_job-in-None : goal.returns-in_ok-owe_job-in-None
returns-in_ok-owe_job-in-None g c =
    let d = g.D.Device.model (core_disk c.args.core.now) in
    let e = g.D.Device.model (core_disk c.named_page.new.core) in
    let old = core_seen c.args.core.now in
    let mid = core_seen c.named_page.new.core in
    let Above : FileState → Type 0 = HasPage c.args.parent.now.id c.args.parent.now.page in
    let Was : Option LivePage → FileState → Type 0 = λ page s. live_page s c.args.name ≡ page in
    let IsThere : Option LivePage → FileState → Type 0 = λ seen s. IsSome seen × (live_page s c.args.name ≡ seen) in
    let seen = over_value NothingOf c.in_ok-seen.seen c.named_page.result Was d e old mid c.in_ok-seen.was c.named_page.ensures.looks in
    let there = child_stands c.args.parent.now.id c.args.parent.now.page c.args.name c.args.area.now c.in_ok-seen.seen c.standing.result d e old mid c.requires.known.leaf c.standing.ensures.some c.standing.ensures.none seen in
    let Added : Meta → Type 0 = λ meta. HasAdded meta.k (IsAtCorner Post c.args.parent.now.page c.args.area.now) c.args.jobs.now.items c.owe_job.new.jobs.items in
    record {
      looks = child_owed c.args.parent.now.id c.args.parent.now.page (c.args.name, c.args.area.now) c.args.jobs.now.items c.owe_job.new.jobs.items d e old mid
          (subst (λ (o : Option LivePage). LooksOver Above (Ok o) IsThere d old e mid) c.in-None.is there);
      fit = λ all. added_fit old.store.meta.k _ c.args.jobs.now.items c.owe_job.new.jobs.items (subst Added (c.meta.ensures ∙ c.named_page.ensures.looks.meta) c.in_ok-owe_job-in-None.ensures.added) all;
    }
