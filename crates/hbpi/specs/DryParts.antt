-- What the parts of a run of `dry` say.
use Rattle.std.specs.Prelude.{◌≡◌, ℕ, ◌≤◌, false, List, [], ◌++◌, length, Result, Ok, Err}
use Rattle.hb_outside.specs.Calls.{PutsOn, SinkModel}
use Rattle.hb_outside.specs.declared.traits.Failed.{Failed}
use Rattle.hb_outside.specs.Streams.{Rose, Appends, AppendsFront}
use Rattle.hb_set.specs.declared.scripts.Line.{Line}
use Rattle.hb_set.specs.declared.scripts.Answered.{Answered}
use Rattle.hb_text.specs.Output.{order_text, output_text}
use Rattle.hbpi.specs.declared.statuses.Status.{Status}
use Rattle.hbpi.specs.declared.statuses.Status.TheVariants.{Done, SinkFault, NoMemory}
use Rattle.hbpi.specs.Outcome.{fault_line, GetsLine, IsDryRun}

-- Some more stand behind the items of a list, which has no less room then.
pub record Gains {T : Type 0} (old new more : List T) (room now : ℕ) : Type 0 where
  pub items : new ≡ old ++ more
  pub room_stays : room ≤ now

-- the status behind the last put
abbrev pub put_status : Result (Unit {0}) Failed → Status
put_status (Ok done) = Done
put_status (Err failed) = SinkFault

-- the order is put behind the answers, and the status tells whether the sink failed
pub record EndsBySink (so_far : Result (Unit {0}) Failed) (order : List ℕ) (status : Status) (before after : SinkModel) : Type 0 where
  pub result : Result (Unit {0}) Failed
  pub status_is : status ≡ put_status result
  pub put : PutsOn so_far (order_text order (length order)) result before after

-- how a run of these lines ends
abbrev pub EndsRun : SinkModel → SinkModel → List Line → List Answered → List ℕ → Status → Type 0
EndsRun before after lines answered order Done = IsDryRun lines answered order × Appends before.written after.written (output_text answered [] false order (length order)) × (after.faults ≡ before.faults)
EndsRun before after lines answered order SinkFault = IsDryRun lines answered order × AppendsFront before.written after.written (output_text answered [] false order (length order)) × Rose before.faults after.faults × (before.faults ≤ after.faults)
EndsRun before after lines answered order NoMemory = GetsLine before after (fault_line NoMemory) × (answered ≡ []) × (order ≡ [])
EndsRun before after lines answered order _ = ⊥
