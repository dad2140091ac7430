use Rattle.std.proofs.Common.{◌∙◌, rules, arith}
use Rattle.std.proofs.lemmas.Bool.{false≢true}
use Rattle.hb_text.proofs.Facts.OutputLaws.{Waits-then, Waits-front, Buffers-failed}
use Rattle.hb_text.proofs.OutputText.{numbers_end_early, number_added, counts_from}
use Rattle.hb_text.proofs.output.put_numbers.Goals as goal

pub returns-in_err-make_room-clause-buffers : goal.returns-in_err-make_room-clause-buffers
returns-in_err-make_room-clause-buffers g c =
    let before = c.loop-number.invariant in
    let failed = c.in_err-make_room.ensures.buffers in
    Buffers-failed _ _ _ _ _ c.from_residual.ensures.0
    (numbers_end_early _ _ c.args.piece.now.bytes.items c.args.numbers.now c.loop-number.number-index (Waits-front _ before.waits failed.tried))
    (counts_from before.faults failed.counts)

pub loop-number-preserved : goal.loop-number-preserved
loop-number-preserved g c =
    let before = c.loop-number.invariant in
    let room = c.in_ok-make_room.ensures in
    record {
      waits = number_added c.args.piece.now.bytes.items c.args.numbers.now c.loop-number.number-index _ _
          (Waits-then before.waits room.buffers.done) c.loop-number-test.true (search rules) c.add_word.ensures.text;
      room = omega (arith, room.room, c.add_word.ensures.longer);
      faults = room.buffers.counts.no_fault (λ e. false≢true e) ∙ before.faults;
    }
