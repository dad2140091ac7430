use Rattle.std.proofs.Common.{◌≡◌, None, Some, Ok, sym, subst, ◌∙◌, refl}
use Rattle.hb_frag.specs.declared.pages.Page.{Page}
use Rattle.hb_layout.specs.declared.meta.Meta.{Meta}
use Rattle.hb_ops.specs.Files.{FileState, page_of}
use Rattle.hb_store.specs.Replaying.{IsPageOf}
use Rattle.hb_store.specs.States.{IsGoodPage}
use Rattle.hb_core.specs.CoreSeen.{core_seen, core_disk}
use Rattle.hb_tidy.proofs.Exits.{over_exit, over_value}
use Rattle.hb_tidy.proofs.Facts.Joined.{over_ok, over_then}
use Rattle.hb_tidy.proofs.LooksMade.{SawPage, sees_page, sees_value}
use Rattle.hb_tidy.proofs.RunsBegun.{over_none}
use Rattle.hb_tidy.specs.Looking.{NothingOf}
use Rattle.hb_tidy.proofs.looking.look.Goals as goal

pub loop-page-init : goal.loop-page-init
loop-page-init g c = record {
  looks = over_none (g.D.Device.model (core_disk c.args.core.now)) (core_seen c.args.core.now) (g.met.D.Device.is_disk (core_disk c.args.core.now)) c.requires.may;
  may = c.requires.may;
  meta = refl;
}

pub page_copy-requires-clause-page : goal.page_copy-requires-clause-page
page_copy-requires-clause-page g c = subst (λ (meta : Meta). IsPageOf meta c.args.id) (sym c.loop-page.invariant.meta) c.requires.known

pub returns-in_err-page-clause-looks : goal.returns-in_err-page-clause-looks
returns-in_err-page-clause-looks g c =
    let d = g.D.Device.model (core_disk c.args.core.now) in
    let mid = g.D.Device.model (core_disk c.loop-page.core) in
    let e = g.D.Device.model (core_disk c.page_copy.new.self) in
    let old = core_seen c.args.core.now in
    let before = core_seen c.loop-page.core in
    let new = core_seen c.page_copy.new.self in
    let told = c.page_copy.ensures in
    let sees = sees_page c.args.id c.page_copy.result mid before e new (g.met.D.Device.is_disk (core_disk c.loop-page.core)) told.copies told.reads told.counts c.loop-page.invariant.may c.seen_by.result c.seen_by.ensures in
    let Is : Page → FileState → Type 0 = λ page s. page_of s c.args.id ≡ Some page in
    over_then NothingOf (tt {0}) (λ v. NothingOf) NothingOf c.from_residual.result Is Is d mid e old before new c.loop-page.invariant.looks (λ s known said. tt)
    (over_exit NothingOf c.in_err-page.field-0.0 c.seen_by.result c.from_residual.result (SawPage c.args.id) Is mid e before new c.in_err-page.was c.from_residual.ensures.1 sees.looks)
    (λ s w known said more. more)

pub returns-in-Some-clause-looks : goal.returns-in-Some-clause-looks
returns-in-Some-clause-looks g c =
    let d = g.D.Device.model (core_disk c.args.core.now) in
    let mid = g.D.Device.model (core_disk c.loop-page.core) in
    let e = g.D.Device.model (core_disk c.page_copy.new.self) in
    let old = core_seen c.args.core.now in
    let before = core_seen c.loop-page.core in
    let new = core_seen c.page_copy.new.self in
    let told = c.page_copy.ensures in
    let sees = sees_page c.args.id c.page_copy.result mid before e new (g.met.D.Device.is_disk (core_disk c.loop-page.core)) told.copies told.reads told.counts c.loop-page.invariant.may c.seen_by.result c.seen_by.ensures in
    let seen = sees_value c.args.id c.seen_by.result c.in_ok-page.field-0 (Some c.in-Some.page) mid before e new sees c.in_ok-page.was c.in-Some.is in
    let Is : Page → FileState → Type 0 = λ page s. page_of s c.args.id ≡ Some page in
    over_then NothingOf (tt {0}) (λ v. NothingOf) NothingOf (Ok c.in-Some.page) Is Is d mid e old before new c.loop-page.invariant.looks (λ s known said. tt)
    (over_ok NothingOf (Some c.in-Some.page) c.in-Some.page (SawPage c.args.id) Is mid e before new (λ s known said. said) seen.looks)
    (λ s w known said more. more)

pub returns-in-Some-clause-good : goal.returns-in-Some-clause-good
returns-in-Some-clause-good g c =
    let mid = g.D.Device.model (core_disk c.loop-page.core) in
    let e = g.D.Device.model (core_disk c.page_copy.new.self) in
    let before = core_seen c.loop-page.core in
    let new = core_seen c.page_copy.new.self in
    let told = c.page_copy.ensures in
    let sees = sees_page c.args.id c.page_copy.result mid before e new (g.met.D.Device.is_disk (core_disk c.loop-page.core)) told.copies told.reads told.counts c.loop-page.invariant.may c.seen_by.result c.seen_by.ensures in
    let seen = sees_value c.args.id c.seen_by.result c.in_ok-page.field-0 (Some c.in-Some.page) mid before e new sees c.in_ok-page.was c.in-Some.is in
    subst (λ (meta : Meta). IsGoodPage meta c.in-Some.page) c.loop-page.invariant.meta seen.good

pub loop-page-preserved : goal.loop-page-preserved
loop-page-preserved g c =
    let d = g.D.Device.model (core_disk c.args.core.now) in
    let mid = g.D.Device.model (core_disk c.loop-page.core) in
    let e = g.D.Device.model (core_disk c.page_copy.new.self) in
    let old = core_seen c.args.core.now in
    let before = core_seen c.loop-page.core in
    let new = core_seen c.page_copy.new.self in
    let told = c.page_copy.ensures in
    let sees = sees_page c.args.id c.page_copy.result mid before e new (g.met.D.Device.is_disk (core_disk c.loop-page.core)) told.copies told.reads told.counts c.loop-page.invariant.may c.seen_by.result c.seen_by.ensures in
    let crowded = sees_value c.args.id c.seen_by.result c.in_ok-page.field-0 None mid before e new sees c.in_ok-page.was c.in-None.is in
    let f = g.D.Device.model (core_disk c.flush.new.core) in
    let last = core_seen c.flush.new.core in
    let looked = over_then NothingOf (tt {0}) (λ v. NothingOf) NothingOf (Ok None) (SawPage c.args.id) (SawPage c.args.id) d mid e old before new c.loop-page.invariant.looks (λ s known said. tt) crowded.looks (λ s w known said more. more) in
    record {
      looks = over_then NothingOf None (SawPage c.args.id) NothingOf (Ok (tt {0})) (λ v. NothingOf) (λ v. NothingOf) d e f old new last looked
          (λ s known said. tt)
          (over_value NothingOf (tt {0}) c.flush.result (λ v. NothingOf) e f new last c.in_ok-flush-in-None.was c.flush.ensures.looks)
          (λ s w known said more. tt);
      may = c.in_ok-flush-in-None.ensures.looks.may;
      meta = c.flush.ensures.looks.meta ∙ sees.looks.meta ∙ c.loop-page.invariant.meta;
    }

pub returns-in_err-flush-in-None-clause-looks : goal.returns-in_err-flush-in-None-clause-looks
returns-in_err-flush-in-None-clause-looks g c =
    let d = g.D.Device.model (core_disk c.args.core.now) in
    let mid = g.D.Device.model (core_disk c.loop-page.core) in
    let e = g.D.Device.model (core_disk c.page_copy.new.self) in
    let old = core_seen c.args.core.now in
    let before = core_seen c.loop-page.core in
    let new = core_seen c.page_copy.new.self in
    let told = c.page_copy.ensures in
    let sees = sees_page c.args.id c.page_copy.result mid before e new (g.met.D.Device.is_disk (core_disk c.loop-page.core)) told.copies told.reads told.counts c.loop-page.invariant.may c.seen_by.result c.seen_by.ensures in
    let crowded = sees_value c.args.id c.seen_by.result c.in_ok-page.field-0 None mid before e new sees c.in_ok-page.was c.in-None.is in
    let f = g.D.Device.model (core_disk c.flush.new.core) in
    let last = core_seen c.flush.new.core in
    let looked = over_then NothingOf (tt {0}) (λ v. NothingOf) NothingOf (Ok None) (SawPage c.args.id) (SawPage c.args.id) d mid e old before new c.loop-page.invariant.looks (λ s known said. tt) crowded.looks (λ s w known said more. more) in
    let Is : Page → FileState → Type 0 = λ page s. page_of s c.args.id ≡ Some page in
    over_then NothingOf None (SawPage c.args.id) NothingOf c.from_residual-in_err-flush-in-None.result Is Is d e f old new last looked
    (λ s known said. tt)
    (over_exit NothingOf c.in_err-flush-in-None.field-0.0 c.flush.result c.from_residual-in_err-flush-in-None.result (λ v. NothingOf) Is e f new last c.in_err-flush-in-None.was c.from_residual-in_err-flush-in-None.ensures.1 c.flush.ensures.looks)
    (λ s w known said more. more)

pub flush-requires : goal.flush-requires
flush-requires g c =
    let mid = g.D.Device.model (core_disk c.loop-page.core) in
    let e = g.D.Device.model (core_disk c.page_copy.new.self) in
    let before = core_seen c.loop-page.core in
    let new = core_seen c.page_copy.new.self in
    let told = c.page_copy.ensures in
    let sees = sees_page c.args.id c.page_copy.result mid before e new (g.met.D.Device.is_disk (core_disk c.loop-page.core)) told.copies told.reads told.counts c.loop-page.invariant.may c.seen_by.result c.seen_by.ensures in
    let crowded = sees_value c.args.id c.seen_by.result c.in_ok-page.field-0 None mid before e new sees c.in_ok-page.was c.in-None.is in
    record { may = crowded.looks.may; crowded = (c.args.id, crowded.crowded refl) }
