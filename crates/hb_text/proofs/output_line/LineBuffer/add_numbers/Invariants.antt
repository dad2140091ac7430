-- The numbers before the index are added.
use Rattle.std.proofs.Common.{◌≡◌, ◌+◌, ◌*◌, ◌≤◌, ◌++◌, length, take}
use Rattle.hb_text.specs.Output.{numbers_text}
use Rattle.hb_text.proofs.output_line.LineBuffer.add_numbers.Given as goal

abbrev pub invariant-loop-number : goal.invariant-loop-number
invariant-loop-number l =
    (l.self.bytes.items ≡ l.fn.self.bytes.items ++ numbers_text (take l.number-index l.numbers))
    × (length l.self.bytes.items ≤ length l.fn.self.bytes.items + 21 * l.number-index)
