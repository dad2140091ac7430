use Rattle.std.proofs.Common.{◌≡◌, List, length, IfSome, vec_len}
use Rattle.hb_frag.specs.declared.pages.Page.{Page}
use Rattle.hb_sound.specs.Asking.{Asks}
use Rattle.hb_sound.specs.Links.{AreLinks, AreRead}
use Rattle.hb_sound.proofs.links.read_links.Given as goal

-- what the leaves of the pages so far name, and no call failed
abbrev pub invariant-loop-place : goal.invariant-loop-place
invariant-loop-place g l = record {
  asks : Asks g.P.Pages.model g.P.Pages.asked ⊥ l.fn.pages l.pages;
  same : vec_len l.links.named ≡ length l.facts.list.now;
  links : IfSome (g.P.Pages.model l.fn.pages).told (λ told. (list : List Page) → AreRead told l.facts.list.now list → AreLinks l.facts.list.now list l.place l.links);
}
