use Rattle.std.proofs.Common.{None}
use Rattle.hb_sound.specs.Covers.{HasBox, SeesSome}
use Rattle.hb_sound.specs.Links.{IsFirstUpTo}
use Rattle.hb_sound.proofs.covers.first_same.Given as goal

-- none so far
abbrev pub invariant-loop-place : goal.invariant-loop-place
invariant-loop-place l = IsFirstUpTo (SeesSome (HasBox l.level l.area) l.facts.list.now) l.place None
