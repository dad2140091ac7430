-- The digits of the bytes before the index are added.
use Rattle.std.proofs.Common.{◌≡◌, ◌+◌, ◌*◌, ◌≤◌, ◌++◌, length, take}
use Rattle.std.specs.List.{flat_map}
use Rattle.hb_text.specs.BodyText.{byte_digits}
use Rattle.hb_text.proofs.output_line.LineBuffer.add_digits.Given as goal

abbrev pub invariant-loop-byte : goal.invariant-loop-byte
invariant-loop-byte l =
    (l.self.bytes.items ≡ l.fn.self.bytes.items ++ flat_map byte_digits (take l.byte-index l.bytes))
    × (length l.self.bytes.items ≤ length l.fn.self.bytes.items + 2 * l.byte-index)
