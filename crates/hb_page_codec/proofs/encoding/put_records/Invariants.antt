use Rattle.std.proofs.Common.{take}
use Rattle.std.specs.List.{flat_map}
use Rattle.hb_frag.specs.Grammar.{record_bytes}
use Rattle.hb_page_codec.specs.Writing.{Wrote}
use Rattle.hb_page_codec.proofs.encoding.put_records.Given as goal

-- the records so far were written
abbrev pub invariant-loop-entry : goal.invariant-loop-entry
invariant-loop-entry l = Wrote l.fn.into l.at (flat_map record_bytes (take l.entry-index l.records)) l.into l.end
