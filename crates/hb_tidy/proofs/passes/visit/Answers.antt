use Rattle.std.proofs.Common.{◌≡◌, Option, Ok, sym, subst}
use Rattle.hb_frag.specs.declared.pages.LivePage.{LivePage}
use Rattle.hb_lemmas.proofs.Options.{at_value}
use Rattle.hb_ops.specs.Files.{live_page}
use Rattle.hb_ops.specs.Sound.{FitsFile}
use Rattle.hb_core.specs.CoreSeen.{core_seen, core_disk}
use Rattle.hb_tidy.proofs.PassParts.{Clean, no_page}
use Rattle.hb_tidy.specs.Finding.{IsTidyAt}
use Rattle.hb_tidy.specs.Looking.{LooksOver}
use Rattle.hb_tidy.proofs.passes.visit.Goals as goal

pub visit_page-requires : goal.visit_page-requires
visit_page-requires g c = record { may = c.requires.may; known = at_value c.args.seen (FitsFile (core_seen c.args.core.now).store.meta) c.in-Some.page c.in-Some.is c.requires.known }

pub returns-in-Some : goal.returns-in-Some
returns-in-Some g c =
    let d = g.D.Device.model (core_disk c.args.core.now) in
    let e = g.D.Device.model (core_disk c.visit_page.new.core) in
    let new = core_seen c.visit_page.new.core in
    let P : Option LivePage → Type 0 = λ seen. LooksOver (λ s. live_page s c.args.id ≡ seen) c.visit_page.result (Clean (λ s. IsTidyAt s c.args.id) new) d (core_seen c.args.core.now) e new in
    subst P (sym c.in-Some.is) c.visit_page.ensures

pub returns-in-None : goal.returns-in-None
returns-in-None g c =
    let d = g.D.Device.model (core_disk c.args.core.now) in
    let core = core_seen c.args.core.now in
    let P : Option LivePage → Type 0 = λ seen. LooksOver {T = Unit {0}} (λ s. live_page s c.args.id ≡ seen) (Ok (tt {0})) (Clean (λ s. IsTidyAt s c.args.id) core) d core d core in
    subst P (sym c.in-None.is) (no_page c.args.id d core (g.met.D.Device.is_disk (core_disk c.args.core.now)) c.requires.may)
