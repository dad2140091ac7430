use Rattle.std.proofs.Common.{ℕ, List, None}
use Rattle.hb_sound.specs.Covers.{IsChained}
use Rattle.hb_sound.specs.Facts.{next_at}
use Rattle.hb_sound.specs.Links.{IsFirstUpTo}
use Rattle.hb_sound.specs.Walks.{IsLeftOut}
use Rattle.hb_sound.proofs.chains.first_left_out.Given as goal

-- none so far
abbrev pub invariant-loop-place : goal.invariant-loop-place
invariant-loop-place l = (chain : List ℕ) → IsChained chain l.chained → IsFirstUpTo (IsLeftOut (next_at l.facts.list.now) chain) l.place None
