use Rattle.std.proofs.Common.{None}
use Rattle.hb_sound.specs.Covers.{SeesRule}
use Rattle.hb_sound.specs.Links.{IsFirstUpTo}
use Rattle.hb_sound.proofs.audits.first_breaking.Given as goal

-- none so far
abbrev pub invariant-loop-place : goal.invariant-loop-place
invariant-loop-place l = IsFirstUpTo (SeesRule l.facts.list.now l.rule) l.place None
