use Rattle.std.proofs.Common.{◌≡◌, ◌-◌}
use Rattle.hb_page_codec.specs.Reading.{many_at}
use Rattle.hb_page_codec.specs.ReadingFields.{record_at, records_at}
use Rattle.hb_view.specs.Behind.{behind}
use Rattle.hb_view.proofs.skipping.behind_list.Given as goal

-- behind the records that are left stands what stands behind all
abbrev pub invariant-loop : goal.invariant-loop
invariant-loop l = behind (many_at (record_at l.k.number) (l.count - l.counter) l.rest) ≡ behind (records_at l.k.number l.count l.bytes)
