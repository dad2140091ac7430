use Rattle.std.proofs.Common.{◌≡◌, ◌+◌, ◌-◌, ◌≤◌, length, cond, false}
use Rattle.hbpi.specs.Taking.{TakesSoFar, IsAtEnd}
use Rattle.hbpi.proofs.texts.read_text.Given as goal

-- the text so far is the front of what the source had left
abbrev pub invariant-loop-more : goal.invariant-loop-more
invariant-loop-more g l = record {
  so_far : TakesSoFar (g.S.Source.model l.fn.source).left (g.S.Source.model l.source).left l.text.items;
  room : length l.text.items ≤ 257000001;
  ended : l.more ≡ false → IsAtEnd (g.S.Source.model l.source).left;
  same : (g.S.Source.model l.source).faults ≡ (g.S.Source.model l.fn.source).faults;
}

abbrev pub decreases-loop-more : goal.decreases-loop-more
decreases-loop-more g l = cond l.more 1 0 + (257000001 - length l.text.items)
