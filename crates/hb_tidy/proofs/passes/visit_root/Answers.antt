use Rattle.std.proofs.Common.{◌≡◌, ℕ, ◌<◌, ◌≤◌, Option, None, Some, Ok, ap, refl, subst}
use Rattle.hb_frag.specs.declared.pages.LivePage.{LivePage}
use Rattle.hb_layout.specs.declared.limits.TheConstants.{HEIGHT_MAX}
use Rattle.hb_layout.specs.declared.meta.Meta.{Meta}
use Rattle.hb_lemmas.proofs.Options.{at_value}
use Rattle.hb_ops.specs.Files.{FileState, live_page}
use Rattle.hb_ops.specs.Sound.{FitsFile}
use Rattle.hb_core.specs.CoreSeen.{core_seen, core_disk}
use Rattle.hb_tidy.proofs.CallsMade.{layout_of}
use Rattle.hb_tidy.proofs.Exits.{ok_is, over_exit, over_value}
use Rattle.hb_tidy.proofs.KnownFiles.{still_known}
use Rattle.hb_tidy.proofs.PassParts.{height_is_most, is_low, is_most, root_then, root_there}
use Rattle.hb_tidy.specs.Finding.{HasGrown}
use Rattle.hb_tidy.specs.Looking.{LooksOver, NothingOf}
use Rattle.hb_tidy.proofs.passes.visit_root.Goals as goal

pub returns-then-is_highest : goal.returns-then-is_highest
returns-then-is_highest g c =
    let d = g.D.Device.model (core_disk c.args.core.now) in
    let old = core_seen c.args.core.now in
    let high : HEIGHT_MAX ≤ old.store.meta.height = subst (λ (meta : Meta). HEIGHT_MAX ≤ meta.height) c.meta.ensures (c.if-is_highest.ensures.0 refl) in
    height_is_most d old (g.met.D.Device.is_disk (core_disk c.args.core.now)) c.requires (is_most old.store.meta (layout_of d old c.requires) high)

pub returns-in_err-page : goal.returns-in_err-page
returns-in_err-page g c =
    over_exit NothingOf c.in_err-page.field-0.0 c.named_page.result c.from_residual.result _ _ (g.D.Device.model (core_disk c.args.core.now)) (g.D.Device.model (core_disk c.named_page.new.core)) (core_seen c.args.core.now) (core_seen c.named_page.new.core)
    c.in_err-page.was c.from_residual.ensures.1 c.named_page.ensures.looks

pub visit_top-requires : goal.visit_top-requires
visit_top-requires g c =
    let old = (core_seen c.args.core.now).store.meta in
    let low : old.height < HEIGHT_MAX = subst (λ (meta : Meta). meta.height < HEIGHT_MAX) c.meta.ensures (is_low _ c.if-is_highest.ensures) in
    let Known : Meta → Type 0 = λ meta. FitsFile meta c.in-Some.page × (meta.height < HEIGHT_MAX) in
    still_known Known (g.D.Device.model (core_disk c.named_page.new.core)) (core_seen c.args.core.now) (core_seen c.named_page.new.core) c.in_ok-page.ensures.looks.may c.named_page.ensures.looks.meta
    (at_value c.in_ok-page.field-0 (FitsFile old) c.in-Some.page c.in-Some.is c.in_ok-page.ensures.good, low)

pub returns-in-Some : goal.returns-in-Some
returns-in-Some g c =
    let d = g.D.Device.model (core_disk c.args.core.now) in
    let e = g.D.Device.model (core_disk c.named_page.new.core) in
    let f = g.D.Device.model (core_disk c.visit_top.new.core) in
    let old = core_seen c.args.core.now in
    let Was : ℕ → Option LivePage → FileState → Type 0 = λ root page s. live_page s root ≡ page in
    let root : c.meta-2.result.now.root ≡ old.store.meta.root = ap (λ (meta : Meta). meta.root) c.meta-2.ensures in
    root_then c.in-Some.page c.visit_top.result d e f old (core_seen c.named_page.new.core) (core_seen c.visit_top.new.core)
    (subst (λ (n : ℕ). LooksOver NothingOf (Ok (Some c.in-Some.page)) (Was n) d old e (core_seen c.named_page.new.core)) root
    (over_value NothingOf (Some c.in-Some.page) c.named_page.result (Was c.meta-2.result.now.root) d e old (core_seen c.named_page.new.core) (ok_is c.named_page.result c.in_ok-page.field-0 (Some c.in-Some.page) c.in_ok-page.was c.in-Some.is) c.named_page.ensures.looks))
    c.visit_top.ensures

pub returns-in-None : goal.returns-in-None
returns-in-None g c =
    let d = g.D.Device.model (core_disk c.args.core.now) in
    let e = g.D.Device.model (core_disk c.named_page.new.core) in
    let f = g.D.Device.model (core_disk c.wait_for.new.core) in
    let old = core_seen c.args.core.now in
    let Was : ℕ → Option LivePage → FileState → Type 0 = λ root page s. live_page s root ≡ page in
    let root : c.meta-2.result.now.root ≡ old.store.meta.root = ap (λ (meta : Meta). meta.root) c.meta-2.ensures in
    root_there _ HasGrown d e f old (core_seen c.named_page.new.core) (core_seen c.wait_for.new.core)
    (subst (λ (n : ℕ). LooksOver {T = Option LivePage} NothingOf (Ok None) (Was n) d old e (core_seen c.named_page.new.core)) root
    (over_value NothingOf None c.named_page.result (Was c.meta-2.result.now.root) d e old (core_seen c.named_page.new.core) (ok_is c.named_page.result c.in_ok-page.field-0 None c.in_ok-page.was c.in-None.is) c.named_page.ensures.looks))
    c.wait_for.ensures.looks
