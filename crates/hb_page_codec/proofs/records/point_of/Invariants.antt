use Rattle.std.proofs.Common.{◌≡◌, ◌-◌, length}
use Rattle.hb_page_codec.specs.Reading.{number_at, many_at}
use Rattle.hb_page_codec.specs.ReadingFields.{point_at}
use Rattle.hb_page_codec.proofs.Facts.LoopLaws.{with_front}
use Rattle.hb_page_codec.proofs.records.point_of.Given as goal

-- the values so far, and those that are still read, are all
abbrev pub invariant-loop : goal.invariant-loop
invariant-loop l = record {
  count : length l.values.items ≡ l.counter;
  read : with_front l.values.items (many_at (number_at 8) (l.fn.k.number - l.counter) l.rest) ≡ point_at l.fn.k.number l.bytes;
}
