-- A line that a run says where all went well.
use Rattle.std.specs.Prelude.{◌≡◌, ℕ, ◌≤◌, List}
use Rattle.hb_core.specs.declared.endings.End.{End}
use Rattle.hb_core.specs.declared.endings.End.TheVariants as ends
use Rattle.hb_outside.specs.Calls.{SinkModel}
use Rattle.hb_outside.specs.Streams.{Rose, Appends, AppendsFront}
use Rattle.hbpi.specs.Codes.{status_after}
use Rattle.hbpi.specs.Outcome.{GetsLine, fault_line}
use Rattle.hbpi.specs.declared.statuses.Status.{Status}
use Rattle.hbpi.specs.declared.statuses.Status.TheVariants.{Done, SinkFault}

-- the line was said, or a front of it where the sink failed
abbrev pub IsSaid : List ℕ → SinkModel → SinkModel → Status → Type 0
IsSaid line before after Done = Appends before.written after.written line × (after.faults ≡ before.faults)
IsSaid line before after SinkFault = AppendsFront before.written after.written line × Rose before.faults after.faults × (before.faults ≤ after.faults)
IsSaid line before after _ = ⊥

-- what is said behind a run that puts no reply: its line where it ended well, or else the fault line of its end
abbrev pub SaysCounts : End → List ℕ → SinkModel → SinkModel → Status → Type 0
SaysCounts ends.Finished line before after status = IsSaid line before after status
SaysCounts end line before after status = (status ≡ status_after end) × GetsLine before after (fault_line status)
