use Rattle.std.proofs.Common.{inl, inr, ap, sym, arith, ◌∙◌}
use Rattle.hb_lemmas.proofs.Options.{none_so}
use Rattle.hb_layout.specs.declared.meta.Meta.{Meta}
use Rattle.hb_page_codec.proofs.Facts.PageLaws.{one_page}
use Rattle.hb_store.specs.Fetching.{IsNoPage}
use Rattle.hb_store.specs.Seen.{seen_as, uses_of}
use Rattle.hb_store.proofs.Facts.Fetched.{none_there, sound_stops}
use Rattle.hb_store.proofs.store.Store.fetch.Goals.{then-id-eq0-via-then-id-eq0, then-id-eq0-via-else-id-eq0+then-id-high}
use Rattle.hb_store.proofs.store.Store.fetch.Goals as goal

pub returns-then-id-eq0-clause-there : goal.returns-then-id-eq0-clause-there
returns-then-id-eq0-clause-there g c =
    let st = seen_as c.args.self.now in
    let none : IsNoPage st.meta c.args.id = elim c.then-id-eq0.branch [
      | then-id-eq0-via-then-id-eq0 w ↦ inl (omega (arith, w.if-id-eq0.true))
      | then-id-eq0-via-else-id-eq0+then-id-high w ↦ inr (omega (arith, w.if-id-high.true, ap (λ (m : Meta). m.high) c.meta.ensures.meta))
    ] in
    λ some. absurd (none_there st c.args.id c.meta.ensures.memory some none)

pub returns-clause-sound : goal.returns-clause-sound
returns-clause-sound g c =
    let d = g.D.Device.model c.args.self.now.disk in
    let st = seen_as c.args.self.now in
    λ durable later k sound.
    sound_stops c.read_page.result one_page d st (uses_of c.args.self.now) durable later c.args.id (g.met.D.Device.is_disk c.args.self.now.disk) k (omega (arith, c.if-id-eq0.false)) (omega (arith, c.if-id-high.false, ap (λ (m : Meta). m.high) c.meta.ensures.meta)) c.meta.ensures.tied
    (sym c.get.ensures ∙ none_so c.get.result (sym c.if-is_some.ensures)) c.read_page.ensures.why sound
