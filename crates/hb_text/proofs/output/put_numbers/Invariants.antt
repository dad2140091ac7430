-- The numbers before the index are put, or wait in the piece.
use Rattle.std.proofs.Common.{◌≡◌, ◌≤◌, ◌++◌, length, max, take}
use Rattle.hb_text.specs.Output.{numbers_text}
use Rattle.hb_text.specs.Waiting.{Waits}
use Rattle.hb_text.proofs.output.put_numbers.Given as goal

abbrev pub invariant-loop-number : goal.invariant-loop-number
invariant-loop-number g l =
    let before = g.K.Sink.model l.fn.sink in
    let after = g.K.Sink.model l.sink in
    record {
      waits : Waits before.written after.written l.piece.bytes.items (l.fn.piece.bytes.items ++ numbers_text (take l.number-index l.numbers));
      room : length l.piece.bytes.items ≤ max 181 (length l.fn.piece.bytes.items);
      faults : after.faults ≡ before.faults;
    }
