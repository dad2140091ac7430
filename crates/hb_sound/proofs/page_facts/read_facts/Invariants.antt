use Rattle.std.proofs.Common.{◌≡◌, ◌⊎◌, ◌≤◌, All, IfSome, vec_len}
use Rattle.hb_sound.specs.Asking.{Asks}
use Rattle.hb_sound.specs.RecordCounts.{IsLightFact}
use Rattle.hb_sound.proofs.ReadUp.{IsReadTo}
use Rattle.hb_sound.proofs.page_facts.read_facts.Given as goal

-- the pages so far were read, and no call failed
abbrev pub invariant-loop-place : goal.invariant-loop-place
invariant-loop-place g l = record {
  asks : Asks g.P.Pages.model g.P.Pages.asked ⊥ l.fn.pages l.pages;
  count : vec_len l.facts ≡ l.place;
  light : All IsLightFact l.facts.items;
  most : (l.place ≡ 0) ⊎ (l.place ≤ l.meta.pages);
  read : IfSome (g.P.Pages.model l.fn.pages).told (λ told. IsReadTo l.meta told l.place l.facts.items);
}
