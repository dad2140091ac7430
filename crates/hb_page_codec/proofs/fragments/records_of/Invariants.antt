use Rattle.std.proofs.Common.{◌≡◌, ◌-◌}
use Rattle.hb_page_codec.specs.Reading.{many_at}
use Rattle.hb_page_codec.specs.ReadingFields.{record_at, records_at}
use Rattle.hb_page_codec.proofs.Facts.LoopLaws.{with_front}
use Rattle.hb_page_codec.proofs.fragments.records_of.Given as goal

-- the records so far, and those that are still read, are all
abbrev pub invariant-loop : goal.invariant-loop
invariant-loop l = with_front l.records.items (many_at (record_at l.k.number) (l.count - l.counter) l.rest) ≡ records_at l.k.number l.count l.bytes
