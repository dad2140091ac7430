use Rattle.std.proofs.Common.{ℕ, List}
use Rattle.hb_sound.specs.Covers.{IsChained}
use Rattle.hb_sound.specs.Facts.{next_at}
use Rattle.hb_sound.specs.Walks.{IsOnce, LeadsAlong}
use Rattle.hb_sound.proofs.Flagged.{unflagged}
use Rattle.hb_sound.proofs.chains.walk.Given as goal

-- the chain so far leads to the number, each of it stands there once, and exactly its pages are flagged
abbrev pub invariant-loop-next : goal.invariant-loop-next
invariant-loop-next l = (chain : List ℕ) × LeadsAlong (next_at l.facts) l.fn.head chain l.id × IsOnce chain × IsChained chain l.chained

-- each step flags a page
abbrev pub decreases-loop-next : goal.decreases-loop-next
decreases-loop-next l = unflagged l.chained
