use Rattle.std.proofs.Common.{◌≡◌, inr, ◌+◌, ◌∷◌, [], List, Option, Some, None, IfSome, All, length, ap, sym, subst, arith}
use Rattle.std.proofs.lemmas.List.Elements.{All-append, All-cons, All-nil}
use Rattle.std.proofs.lemmas.List.{length_push}
use Rattle.hb_frag.specs.declared.pages.Page.{Page}
use Rattle.hb_sound.specs.declared.page_facts.Fact.{Fact}
use Rattle.hb_sound.specs.Facts.{IsFactOf}
use Rattle.hb_sound.specs.RecordCounts.{IsLightFact}
use Rattle.hb_sound.specs.Links.{Knows}
use Rattle.hb_sound.specs.Told.{item_at}
use Rattle.hb_sound.proofs.Asking.{asks_as, asks_on}
use Rattle.hb_sound.proofs.ReadUp.{IsReadTo, if_more}
use Rattle.hb_sound.proofs.page_facts.read_facts.Goals as goal

pub loop-place-preserved : goal.loop-place-preserved
loop-place-preserved g c =
    let kept = c.loop-place.invariant in
    let read = c.in_ok-fact.ensures in
    let fact = c.in_ok-fact.fact in
    let items = c.in_ok-keep.ensures in
    let id = c.loop-place.place + 1 in
    let long = length_push c.loop-place.facts.items fact in
    let longer = ap (λ (l : List Fact). length l) items in
    let before = c.loop-place.facts.ok.0 in
    let after = c.keep.new.facts.ok.0 in
    let F : Option (List (Option Page)) → Type 0 = λ o. IfSome o (λ told. (page : Page) → item_at told id ≡ Some (Some page) → IsFactOf c.args.meta.now fact page) in
    let N : Option (List (Option Page)) → Type 0 = λ o. IfSome o (λ told. item_at told id ≡ Some None → ⊥) in
    let K : Option (List (Option Page)) → Type 0 = λ o. IfSome o (λ told. (page : Page) → item_at told id ≡ Some (Some page) → Knows c.loop-place.facts.items fact page) in
    let R : List Fact → Type 0 = λ l. IfSome (g.P.Pages.model c.args.pages.now).told (λ told. IsReadTo c.args.meta.now told id l) in
    let L : List Fact → Type 0 = λ l. All IsLightFact l in
    record {
      asks = asks_on g.P.Pages.model g.P.Pages.asked ⊥ c.args.pages.now c.loop-place.pages c.read_fact.new.pages g.P.Pages.asked_on kept.asks
          (asks_as g.P.Pages.model g.P.Pages.asked _ ⊥ c.loop-place.pages c.read_fact.new.pages (λ e. cc) (λ never. absurd never) read.asks);
      count = omega (arith, long, longer, before, after, kept.count);
      light = subst L (sym {A = List Fact} items) (All-append IsLightFact c.loop-place.facts.items (fact ∷ []) kept.light (All-cons IsLightFact fact [] read.light (All-nil IsLightFact)));
      most = inr read.there.0;
      read = subst R (sym {A = List Fact} items)
          (if_more (g.P.Pages.model c.args.pages.now).told c.args.meta.now c.loop-place.place c.loop-place.facts.items fact c.requires.covered kept.read
          (omega (arith, before, kept.count)) read.there.0 (subst F kept.asks.stays read.fact) (subst N kept.asks.stays read.there.1) (subst K kept.asks.stays (rw (c.deref.ensures.value) at read.knows)));
    }
