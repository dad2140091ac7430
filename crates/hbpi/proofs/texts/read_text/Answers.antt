use Rattle.std.proofs.Common.{◌∙◌, inl, inr, arith, length}
use Rattle.hbpi.proofs.TextPieces.{piece_joins, text_whole, turns_fall}
use Rattle.hbpi.proofs.texts.read_text.Goals as goal
use Rattle.hbpi.proofs.texts.read_text.Goals.{then-loop-more-test+else-len-lt-GREATEST, else-loop-more-test}

pub loop-more-smaller : goal.loop-more-smaller
loop-more-smaller g c =
    turns_fall c.loop-more.more c.in_ok-more.more (length c.loop-more.text.items) (length c.take_piece.new.text.items) 257000001 c.loop-more-test.true
    (omega (arith, c.if-len-lt-GREATEST.true, c.len.ensures, c.loop-more.text.ok.0))
    c.in_ok-more.ensures.kept
    c.in_ok-more.ensures.grows
    (omega (arith, c.in_ok-more.ensures.bound, c.len-most.ensures, c.loop-more.text.ok.0, c.loop-more.invariant.room))

pub loop-more-preserved : goal.loop-more-preserved
loop-more-preserved g c = record {
  so_far = piece_joins _ _ _ c.loop-more.text.items _ c.loop-more.invariant.so_far c.in_ok-more.ensures.piece;
  room = omega (arith, c.in_ok-more.ensures.bound, c.len-most.ensures, c.loop-more.text.ok.0, c.loop-more.invariant.room);
  ended = c.in_ok-more.ensures.ended;
  same = c.in_ok-more.ensures.counts.no_fault (λ is. cc is) ∙ c.loop-more.invariant.same;
}

pub returns-clause-text : goal.returns-clause-text
returns-clause-text g c = (
  elim c.loop-more-test.branch [
    | then-loop-more-test+else-len-lt-GREATEST w ↦ text_whole _ _ c.loop-more.text.items c.loop-more.invariant.so_far c.loop-more.invariant.room (inl (omega arith))
    | else-loop-more-test w ↦ text_whole _ _ c.loop-more.text.items c.loop-more.invariant.so_far c.loop-more.invariant.room (inr (c.loop-more.invariant.ended w.loop-more-test.false))
  ],
  c.loop-more.invariant.same,
)
