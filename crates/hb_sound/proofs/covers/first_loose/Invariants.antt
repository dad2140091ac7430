use Rattle.std.proofs.Common.{None, length}
use Rattle.hb_sound.specs.Covers.{AreBelow, SeesLoose}
use Rattle.hb_sound.specs.Links.{IsFirstUpTo}
use Rattle.hb_sound.proofs.covers.first_loose.Given as goal

-- none so far
abbrev pub invariant-loop-place : goal.invariant-loop-place
invariant-loop-place l = AreBelow (length l.firsts) l.facts.list.now → IsFirstUpTo (SeesLoose l.facts.list.now l.named l.whole) l.place None
