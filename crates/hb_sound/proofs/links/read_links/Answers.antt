use Rattle.std.proofs.Common.{◌≡◌, ◌+◌, List, Option, Some, Result, Err, IfSome, ◌∙◌, subst}
use Rattle.std.proofs.lemmas.Result.{err_from_is_err_and}
use Rattle.hb_frag.specs.declared.pages.Page.{Page}
use Rattle.hb_sound.specs.declared.links.Links.{Links}
use Rattle.hb_sound.specs.declared.pages.AuditStop.{AuditStop}
use Rattle.hb_sound.specs.declared.pages.AuditStop.TheVariants.{Failed}
use Rattle.hb_sound.specs.Links.{AddsPage, AreRead, IsCut, KnowsTold}
use Rattle.hb_sound.specs.Told.{item_at}
use Rattle.hb_sound.proofs.Asking.{asks_as, asks_on}
use Rattle.hb_sound.proofs.LinkSteps.{links_more, never_broken, on_broken}
use Rattle.hb_sound.proofs.links.read_links.Goals as goal

pub returns-in_err-read-clause-never : goal.returns-in_err-read-clause-never
returns-in_err-read-clause-never g c =
    let p = err_from_is_err_and c.from_residual-in_err-read.result c.from_residual-in_err-read.ensures.1 in
    let N : Option (List (Option Page)) → Type 0 = λ o. IfSome o (λ told. (page : Page) → item_at told (c.loop-place.place + 1) ≡ Some (Some page) → IsCut page → ⊥) in
    rw (p.1, p.2)
    (on_broken (N (g.P.Pages.model c.loop-place.pages).told) (IfSome (g.P.Pages.model c.args.pages.now).told (λ told. (list : List Page) → AreRead told c.args.facts.now.list.now list → ⊥)) c.in_err-read.field-0.0
    (λ never. never_broken (g.P.Pages.model c.args.pages.now).told c.args.facts.now.list.now c.loop-place.place c.loop-place-test.true (subst N c.loop-place.invariant.asks.stays never)) c.in_err-read.ensures.links.never)

pub returns-in_err-read-clause-asks : goal.returns-in_err-read-clause-asks
returns-in_err-read-clause-asks g c =
    let p = err_from_is_err_and c.from_residual-in_err-read.result c.from_residual-in_err-read.ensures.1 in
    let stop = c.in_err-read.field-0.0 in
    let Failing : Type 0 = ◌≡◌ {A = Result Links AuditStop} (Err stop) (Err Failed) in
    rw (p.1, p.2)
    (asks_on g.P.Pages.model g.P.Pages.asked Failing c.args.pages.now c.loop-place.pages c.read.new.pages g.P.Pages.asked_on c.loop-place.invariant.asks
    (asks_as g.P.Pages.model g.P.Pages.asked (◌≡◌ {A = Result (Unit {0}) AuditStop} (Err stop) (Err Failed)) Failing c.loop-place.pages c.read.new.pages (λ e. cc e) (λ e. cc e) c.in_err-read.ensures.asks))

pub loop-place-preserved : goal.loop-place-preserved
loop-place-preserved g c =
    let kept = c.loop-place.invariant in
    let read = c.in_ok-read.ensures.links in
    let A : Option (List (Option Page)) → Type 0 = λ o. IfSome o (λ told. (page : Page) → item_at told (c.loop-place.place + 1) ≡ Some (Some page)
    → KnowsTold c.args.facts.now.list.now told → AddsPage c.args.facts.now.list.now (c.loop-place.place + 1) page c.loop-place.links c.read.new.self) in
    record {
      asks = asks_on g.P.Pages.model g.P.Pages.asked ⊥ c.args.pages.now c.loop-place.pages c.read.new.pages g.P.Pages.asked_on kept.asks
          (asks_as g.P.Pages.model g.P.Pages.asked _ ⊥ c.loop-place.pages c.read.new.pages (λ e. cc) (λ never. absurd never) c.in_ok-read.ensures.asks);
      same = c.read.ensures.links.same ∙ kept.same;
      links = links_more (g.P.Pages.model c.args.pages.now).told c.args.facts.now.list.now c.loop-place.place c.loop-place.links c.read.new.self c.loop-place-test.true kept.links (subst A kept.asks.stays read.adds);
    }
