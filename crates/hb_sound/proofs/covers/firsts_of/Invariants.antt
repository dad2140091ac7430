use Rattle.hb_sound.specs.Covers.{AreFirsts}
use Rattle.hb_sound.proofs.covers.firsts_of.Given as goal

-- those of the levels so far
abbrev pub invariant-loop-level : goal.invariant-loop-level
invariant-loop-level l = AreFirsts l.facts.list.now l.level l.whole l.firsts.items
