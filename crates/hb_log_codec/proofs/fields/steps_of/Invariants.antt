use Rattle.std.proofs.Common.{◌≡◌, ◌-◌}
use Rattle.hb_page_codec.specs.Reading.{many_at}
use Rattle.hb_log_codec.specs.Fields.{side_at}
use Rattle.hb_page_codec.proofs.Facts.LoopLaws.{with_front}
use Rattle.hb_log_codec.proofs.fields.steps_of.Given as goal

-- what was read so far, and what is still read, is all
abbrev pub invariant-loop : goal.invariant-loop
invariant-loop l = with_front l.steps.items (many_at side_at (l.count - l.counter) l.rest) ≡ many_at side_at l.count l.bytes
