-- A text that is put from a buffer, of which a front was put and the rest waits.
use Rattle.std.specs.Prelude.{◌≡◌, ℕ, List, ◌++◌, Option, Result, IsErr, OnOk, OnErr}
use Rattle.hb_outside.specs.Streams.{Appends, AppendsFront}
use Rattle.hb_outside.specs.Calls.{Counts, SinkModel}

-- of a text, a front was put, and the rest waits to be put
pub record Waits (before after : Option (List ℕ)) (waiting text : List ℕ) : Type 0 where
  pub front : List ℕ
  pub is_text : front ++ waiting ≡ text
  pub is_put : Appends before after front

-- A call that puts what a full buffer has of a text leaves the rest waiting in it. One that failed put a front of the text.
pub record Buffers {T E : Type 0} (text waiting : List ℕ) (result : Result T E) (before after : SinkModel) : Type 0 where
  pub done : OnOk result (Waits before.written after.written waiting text)
  pub tried : OnErr result (AppendsFront before.written after.written text)
  pub counts : Counts (IsErr result) before.faults after.faults
