use Rattle.std.proofs.Common.{inl, inr, ◌∙◌, ℕ, List, Option, Some, refl, sym, ap, subst}
use Rattle.std.specs.Ordering.{nat_cmp}
use Rattle.std.specs.BTreeMap.{get}
use Rattle.hb_frag.specs.declared.pages.Page.{Page}
use Rattle.hb_page_codec.specs.Weight.{IsLight}
use Rattle.hb_outside.proofs.Facts.CountLaws.{Counts-same}
use Rattle.hb_disk.proofs.Facts.RunLaws.{OnlyReads-read}
use Rattle.hb_restart.specs.Source.{AsksOnly-none, told_pages}
use Rattle.hb_restart.proofs.Told.{gives_none, gives_read, gives_touched, light_page}
use Rattle.hb_restart.proofs.source.FilePagesPages.page.Goals as goal
use Rattle.hb_restart.proofs.source.FilePagesPages.page.Goals.{then-id-eq0-via-then-id-eq0, then-id-eq0-via-else-id-eq0+then-id-self}

pub returns-in-Ok-clause-gives : goal.returns-in-Ok-clause-gives
returns-in-Ok-clause-gives g c =
    let s = c.args.self.now in
    gives_touched (g.D.Device.model s.disk).told s.said (get nat_cmp s.touched) c.args.id c.in-Ok.page
    (sym c.in-Some.ensures.value ∙ ap (λ (p : Page). Some p) (sym c.in-Ok.ensures))

pub returns-in-Ok-clause-light : goal.returns-in-Ok-clause-light
returns-in-Ok-clause-light g c =
    subst IsLight (sym c.in-Ok.ensures) (light_page c.in-Some.page.now (c.args.self.now.is_source.light c.args.id c.in-Some.page.now (sym c.in-Some.ensures.value)))

pub returns-then-id-eq0-clause-gives : goal.returns-then-id-eq0-clause-gives
returns-then-id-eq0-clause-gives g c =
    let s = c.args.self.now in
    gives_none (g.D.Device.model s.disk).told s.said (get nat_cmp s.touched) c.args.id
    (elim c.then-id-eq0.branch [ then-id-eq0-via-then-id-eq0 w ↦ inl w.if-id-eq0.true | then-id-eq0-via-else-id-eq0+then-id-self w ↦ inr w.if-id-self.true ])

pub returns-clause-gives : goal.returns-clause-gives
returns-clause-gives g c =
    let s = c.args.self.now in
    gives_read c.page_in_place.result (g.D.Device.model s.disk).told s.said (get nat_cmp s.touched) c.args.id (sym c.in_default.ensures.value) c.page_in_place.ensures.there

pub returns-clause-asks : goal.returns-clause-asks
returns-clause-asks g c =
    let s = c.args.self.now in
    let only = c.page_in_place.ensures.only in
    record {
      stays = ap (λ (o : Option (List ℕ)). told_pages o s.said (get nat_cmp s.touched)) only.stays.told;
      counts = only.reads;
      asked = record { reads = OnlyReads-read _ _ _ only; said_is = refl; touched_is = refl };
    }

pub returns-in-Ok-clause-asks : goal.returns-in-Ok-clause-asks
returns-in-Ok-clause-asks g c =
    let s = c.args.self.now in
    record { stays = refl; counts = Counts-same (λ e. let never : ⊥ = cc e in never) refl; asked = AsksOnly-none (g.D.Device.model s.disk) s.said s.touched }

pub returns-in-Err-clause-asks : goal.returns-in-Err-clause-asks
returns-in-Err-clause-asks g c =
    let s = c.args.self.now in
    record { stays = refl; counts = Counts-same (λ e. let never : ⊥ = cc e in never) refl; asked = AsksOnly-none (g.D.Device.model s.disk) s.said s.touched }

pub returns-then-id-eq0-clause-asks : goal.returns-then-id-eq0-clause-asks
returns-then-id-eq0-clause-asks g c =
    let s = c.args.self.now in
    record { stays = refl; counts = Counts-same (λ e. let never : ⊥ = cc e in never) refl; asked = AsksOnly-none (g.D.Device.model s.disk) s.said s.touched }
