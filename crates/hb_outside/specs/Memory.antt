-- What sources and sinks in memory are seen as, and how their counts go on.
use Rattle.std.specs.Prelude.{ℕ, ◌+◌, ◌-◌, ◌^◌, min, List, Some}
use Rattle.hb_outside.specs.Calls.{SourceModel, SinkModel}

-- the next value of a count, which stands still at its last one
abbrev pub next_count : ℕ → ℕ
next_count count = min (count + 1) (2 ^ 64 - 1)

-- a source in memory: the bytes that are left, the numbers of the calls that fail, the number of the next call, and
-- how many calls failed
pub record SourceState : Type 0 where
  pub left : List ℕ
  pub calls : List ℕ
  pub call : ℕ
  pub faults : ℕ

-- a sink in memory: the bytes that were written, the numbers of the calls that fail, the number of the next call, how
-- many calls failed, and how many of those for want of memory
pub record SinkState : Type 0 where
  pub written : List ℕ
  pub calls : List ℕ
  pub call : ℕ
  pub faults : ℕ
  pub starved : ℕ

-- both tell all
abbrev pub memory_source : SourceState → SourceModel
memory_source s = record { left = Some s.left; faults = s.faults }

abbrev pub memory_sink : SinkState → SinkModel
memory_sink s = record { written = Some s.written; faults = s.faults }
