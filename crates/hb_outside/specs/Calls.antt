-- What a call of a source or a sink did, and how a count of failed calls goes on over a call.
use Rattle.std.specs.Prelude.{◌≡◌, ℕ, ◌≤◌, List, Option, length, Result, IsErr, IfOk, OnOk, OnErr}
use Rattle.hb_outside.specs.Streams.{Rose, Takes, Appends, AppendsFront}

-- A count of faults over a call: it rises where the call failed so, stays where it didn't, and never falls.
pub record Counts (failed : Type 0) (before after : ℕ) : Type 0 where
  pub cause : failed → Rose before after
  pub no_fault : (failed → ⊥) → after ≡ before
  pub later : before ≤ after

-- a source: what is left to read, where it tells, and how often it has failed
pub record SourceModel : Type 0 where
  pub left : Option (List ℕ)
  pub faults : ℕ

-- a sink: what was written, where it tells, and how often it has failed
pub record SinkModel : Type 0 where
  pub written : Option (List ℕ)
  pub faults : ℕ

-- A call that takes bytes moves the first of those that are left to the front of a buffer, and answers how many: 0 only
-- at the end. One that failed took nothing, and the buffer holds any bytes.
pub record Took {E : Type 0} (result : Result ℕ E) (into : List ℕ) (before after : SourceModel) : Type 0 where
  pub bound : IfOk result (λ n. n ≤ length into)
  pub moved : IfOk result (λ n. Takes before.left after.left into n)
  pub failed : OnErr result (after.left ≡ before.left)
  pub counts : Counts (IsErr result) before.faults after.faults

-- A call that puts a piece puts all of it behind what was written. One that failed put a front of it.
pub record Puts {T E : Type 0} (piece : List ℕ) (result : Result T E) (before after : SinkModel) : Type 0 where
  pub done : OnOk result (Appends before.written after.written piece)
  pub tried : OnErr result (AppendsFront before.written after.written piece)
  pub counts : Counts (IsErr result) before.faults after.faults

-- One piece more is put only where none failed before.
pub record PutsOn {T E : Type 0} (so_far : Result T E) (piece : List ℕ) (result : Result T E) (before after : SinkModel) : Type 0 where
  pub put : OnOk so_far (Puts piece result before after)
  pub left : OnErr so_far ((after ≡ before) × IsErr result)
  pub later : before.faults ≤ after.faults
