use Rattle.std.proofs.Common.{◌≡◌, ◌∙◌, Some, Err, ap, refl, subst}
use Rattle.std.specs.Prelude.{IfSome, IsSomeAnd}
use Rattle.hb_disk.proofs.Facts.FaultLaws.{ReadsOnly-as}
use Rattle.hb_frag.specs.Grammar.{SpellsPage}
use Rattle.hb_layout.specs.Offsets.{page_offset}
use Rattle.hb_layout.specs.declared.meta.Meta.{Meta}
use Rattle.hb_page_codec.specs.ReadingPages.{page_of_bytes}
use Rattle.hb_page_codec.proofs.Facts.PageLaws.{one_page}
use Rattle.hb_store.specs.Fetching.{HoldsNot}
use Rattle.hb_store.specs.Opening.{place_bytes}
use Rattle.hb_store.specs.Seen.{seen_as, uses_of}
use Rattle.hb_store.specs.States.{IsGoodPage}
use Rattle.hb_store.proofs.Facts.LookLaws.{LooksUp-read}
use Rattle.hb_store.proofs.Facts.Fetched.{placed_read, read_keeps, read_not}
use Rattle.hb_store.proofs.store.Store.read_page.Goals as goal

pub returns-in-Ok-page_in-clause-looks : goal.returns-in-Ok-page_in-clause-looks
returns-in-Ok-page_in-clause-looks g c =
    let d = g.D.Device.model c.args.self.now.disk in
    let e = g.D.Device.model c.read.new.self in
    let st = seen_as c.args.self.now in
    let place = place_bytes st.meta c.args.id in
    let at : c.page_offset-place.result ≡ page_offset st.meta c.args.id = c.page_offset-place.ensures ∙ ap (λ (m : Meta). page_offset m c.args.id) c.meta.ensures.meta in
    let read : IfSome d.told (λ b. c.read.new.into ≡ place b) = placed_read d.told c.page_offset-place.result c.read.new.into st.meta c.args.id c.in-Ok.ensures.bytes c.read.auto.into at in
    let good = subst (λ (m : Meta). IsSomeAnd (page_of_bytes c.read.new.into) (λ page. SpellsPage c.read.new.into page × IsGoodPage m page)) c.meta-in-Ok.ensures.meta c.in-Ok-page_in.ensures.good in
    let only = c.in-Ok.ensures.only in
    record {
      only = ReadsOnly-as d e (λ is. cc is) (λ is. cc is) only;
      keeps = read_keeps one_page d e (g.met.D.Device.is_disk c.args.self.now.disk) st c.hold.new.self.state (uses_of c.args.self.now) c.args.id c.read.new.into c.meta.ensures.tied c.requires.absent c.requires.page only.stays
          c.hold.ensures.fetched c.hold.ensures.there good read;
    }

pub returns-in-Err-page_in-clause-why : goal.returns-in-Err-page_in-clause-why
returns-in-Err-page_in-clause-why g c =
    let d = g.D.Device.model c.args.self.now.disk in
    let meta = (seen_as c.args.self.now).meta in
    let place = place_bytes meta c.args.id in
    let at : c.page_offset-place.result ≡ page_offset meta c.args.id = c.page_offset-place.ensures ∙ ap (λ (m : Meta). page_offset m c.args.id) c.meta.ensures.meta in
    let read : IfSome d.told (λ b. c.read.new.into ≡ place b) = placed_read d.told c.page_offset-place.result c.read.new.into meta c.args.id c.in-Ok.ensures.bytes c.read.auto.into at in
    let why : HoldsNot meta (Some c.read.new.into) c.args.id c.in-Err-page_in.stop = subst (λ (m : Meta). HoldsNot m (Some c.read.new.into) c.args.id c.in-Err-page_in.stop) c.meta-in-Ok.ensures.meta c.in-Err-page_in.ensures.why in
    read_not {X = Unit {0}} (Err c.in-Err-page_in.stop) d.told c.read.new.into place meta c.args.id why read

pub returns-in-Err-page_in-clause-looks : goal.returns-in-Err-page_in-clause-looks
returns-in-Err-page_in-clause-looks g c =
    let d = g.D.Device.model c.args.self.now.disk in
    let e = g.D.Device.model c.read.new.self in
    LooksUp-read d e (seen_as c.args.self.now) (ReadsOnly-as d e (λ failed. cc failed) (λ is. absurd (c.in-Err-page_in.ensures.no_fault is)) c.in-Ok.ensures.only)

pub returns-in-Err-clause-looks : goal.returns-in-Err-clause-looks
returns-in-Err-clause-looks g c =
    let d = g.D.Device.model c.args.self.now.disk in
    let e = g.D.Device.model c.read.new.self in
    LooksUp-read d e (seen_as c.args.self.now) (ReadsOnly-as d e (λ _. refl) (λ _. refl) c.in-Err.ensures.only)
