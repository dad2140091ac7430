use Rattle.std.proofs.Common.{◌≡◌, Option, None, Some, Ok, ap, refl, subst}
use Rattle.hb_frag.specs.declared.pages.LivePage.{LivePage}
use Rattle.hb_frag.specs.declared.pages.Page.{Page}
use Rattle.hb_frag.specs.declared.pages.Page.TheVariants.{Live, Free}
use Rattle.hb_layout.specs.declared.meta.Meta.{Meta}
use Rattle.hb_ops.specs.Files.{FileState, if_live, live_page, page_of}
use Rattle.hb_store.specs.Fetching.{IsNoPage}
use Rattle.hb_core.specs.CoreSeen.{core_seen, core_disk}
use Rattle.hb_tidy.proofs.CallsMade.{nothing_looked}
use Rattle.hb_tidy.proofs.Exits.{ok_is, over_exit, over_value}
use Rattle.hb_tidy.proofs.Facts.Joined.{over_ok}
use Rattle.hb_tidy.proofs.KnownFiles.{IsFileOf, none_there, over_file}
use Rattle.hb_tidy.specs.Looking.{NothingOf}
use Rattle.hb_tidy.proofs.looking.named_page.Goals as goal

pub returns-then-is_beyond-clause-looks : goal.returns-then-is_beyond-clause-looks
returns-then-is_beyond-clause-looks g c =
    let d = g.D.Device.model (core_disk c.args.core.now) in
    let old = core_seen c.args.core.now in
    let Is : Option LivePage → FileState → Type 0 = λ page s. live_page s c.args.id ≡ page in
    let beyond : IsNoPage old.store.meta c.args.id = subst (λ (meta : Meta). IsNoPage meta c.args.id) c.meta.ensures (c.if-is_beyond.ensures.0 refl) in
    over_file NothingOf (Ok None) Is d d old old
    (nothing_looked d old (g.met.D.Device.is_disk (core_disk c.args.core.now)) c.requires None (λ s. IsFileOf old s × NothingOf s) Is (λ s known. none_there old s c.args.id known.0 beyond))

pub returns-in_err-page-clause-looks : goal.returns-in_err-page-clause-looks
returns-in_err-page-clause-looks g c =
    over_exit NothingOf c.in_err-page.field-0.0 c.look.result c.from_residual.result (λ (page : Page) s. page_of s c.args.id ≡ Some page) (λ (page : Option LivePage) s. live_page s c.args.id ≡ page)
    (g.D.Device.model (core_disk c.args.core.now)) (g.D.Device.model (core_disk c.look.new.core)) (core_seen c.args.core.now) (core_seen c.look.new.core) c.in_err-page.was c.from_residual.ensures.1 c.look.ensures.looks

pub returns-in-Live-clause-looks : goal.returns-in-Live-clause-looks
returns-in-Live-clause-looks g c =
    let d = g.D.Device.model (core_disk c.args.core.now) in
    let e = g.D.Device.model (core_disk c.look.new.core) in
    let Was : Page → FileState → Type 0 = λ page s. page_of s c.args.id ≡ Some page in
    let Is : Option LivePage → FileState → Type 0 = λ page s. live_page s c.args.id ≡ page in
    over_ok NothingOf (Live c.in-Live.page) (Some c.in-Live.page) Was Is d e (core_seen c.args.core.now) (core_seen c.look.new.core) (λ s known said. ap if_live said)
    (over_value NothingOf (Live c.in-Live.page) c.look.result Was d e (core_seen c.args.core.now) (core_seen c.look.new.core) (ok_is c.look.result c.in_ok-page.field-0 (Live c.in-Live.page) c.in_ok-page.was c.in-Live.is) c.look.ensures.looks)

pub returns-in-Free-clause-looks : goal.returns-in-Free-clause-looks
returns-in-Free-clause-looks g c =
    let d = g.D.Device.model (core_disk c.args.core.now) in
    let e = g.D.Device.model (core_disk c.look.new.core) in
    let Was : Page → FileState → Type 0 = λ page s. page_of s c.args.id ≡ Some page in
    let Is : Option LivePage → FileState → Type 0 = λ page s. live_page s c.args.id ≡ page in
    over_ok NothingOf (Free c.in-Free.next) None Was Is d e (core_seen c.args.core.now) (core_seen c.look.new.core) (λ s known said. ap if_live said)
    (over_value NothingOf (Free c.in-Free.next) c.look.result Was d e (core_seen c.args.core.now) (core_seen c.look.new.core) (ok_is c.look.result c.in_ok-page.field-0 (Free c.in-Free.next) c.in_ok-page.was c.in-Free.is) c.look.ensures.looks)
