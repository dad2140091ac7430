-- The records at the front of bytes.
use Rattle.std.specs.Prelude.{ℕ, List}
use Rattle.hb_space.specs.declared.records.Record.{Record}
use Rattle.hb_page_codec.specs.ReadingFields.{records_at}
use Rattle.hb_view.specs.Behind.{after_or, list_or}

-- so many records, where they stand there
abbrev pub records_there : ℕ → ℕ → List ℕ → List Record
records_there k count bytes = list_or (records_at k count bytes)

-- and the bytes behind them
abbrev pub after_there : ℕ → ℕ → List ℕ → List ℕ
after_there k count bytes = after_or (records_at k count bytes)
