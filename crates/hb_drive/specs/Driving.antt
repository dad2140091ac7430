-- What a schedule's run comes to: its steps, its answers, and the text that it writes.
use Rattle.std.specs.Prelude.{◌≡◌, ◌≢◌, ◌≤◌, ℕ, Bool, true, false, List, [], map, Option, None, Some, OnErr, Result, is_some}
use Rattle.std.specs.List.{flat_map}
use Rattle.hb_disk.specs.Model.{DiskModel}
use Rattle.hb_disk.specs.declared.traits.Device.{Ghosts}
use Rattle.hb_outside.specs.Calls.{Puts, SinkModel}
use Rattle.hb_outside.specs.Streams.{Appends, AppendsFront, Rose}
use Rattle.hb_set.specs.declared.scripts.Answered.{Answered}
use Rattle.hb_store.specs.declared.stops.StopWhy.{StopWhy}
use Rattle.hb_text.specs.Output.{answer_text, output_text}
use Rattle.hb_core.specs.declared.endings.End.{End}
use Rattle.hb_core.specs.declared.endings.End.TheVariants as ends
use Rattle.hb_core.specs.declared.endings.Ran.{Ran}
use Rattle.hb_core.specs.declared.state.Core.{Core}
use Rattle.hb_core.specs.CoreSeen.{core_seen, core_disk}
use Rattle.hb_steps.specs.Machines.{Machine, settled_count}
use Rattle.hb_core.specs.Runs.{HasReadFault, HasRun, left_numbers}
use Rattle.hb_core.specs.Showing.{RunningCore}
use Rattle.hb_core.specs.Working.{MayStep}

-- the output of a run: the replies in the sequence of answering, the lines without an answer, and the order, with a bar before the first
-- place that isn't settled
abbrev pub run_text : List Answered → Machine → List ℕ
run_text answers m = output_text answers (left_numbers m) (is_some m.stop) (map (λ e. e.line.number) m.order) (settled_count m)

-- How a run ended: its whole text was written, or the sink failed and has a front of it. A fault of the sink comes first, then a stop,
-- then a reply `read fault`.
abbrev pub EndsWith : End → SinkModel → SinkModel → List ℕ → List Answered → Option StopWhy → Type 0
EndsWith ends.NoMemory before after text answers stop = ⊥
EndsWith ends.SinkFault before after text answers stop = AppendsFront before.written after.written text × Rose before.faults after.faults
EndsWith (ends.Stopped why) before after text answers stop = Appends before.written after.written text × (after.faults ≡ before.faults) × (stop ≡ Some why)
EndsWith ends.ReadFault before after text answers stop = Appends before.written after.written text × (after.faults ≡ before.faults) × (stop ≡ None) × HasReadFault answers
EndsWith ends.Finished before after text answers stop = Appends before.written after.written text × (after.faults ≡ before.faults) × (stop ≡ None) × (¬ (HasReadFault answers))

-- which end it is, by whether the sink failed, the stop and the answers
abbrev pub IsEndOf : End → Bool → Option StopWhy → List Answered → Type 0
IsEndOf ends.NoMemory failed stop answers = ⊥
IsEndOf ends.SinkFault failed stop answers = failed ≡ true
IsEndOf (ends.Stopped why) failed stop answers = (failed ≡ false) × (stop ≡ Some why)
IsEndOf ends.ReadFault failed stop answers = (failed ≡ false) × (stop ≡ None) × HasReadFault answers
IsEndOf ends.Finished failed stop answers = (failed ≡ false) × (stop ≡ None) × (¬ (HasReadFault answers))

-- Exactly the schedule's steps lead from the machine to one that the core shows then, with these answers, and the run's text was written.
pub record DrivesTo (m : Machine) (actors : List ℕ) (answers : List Answered) (d e : DiskModel) (c : RunningCore) (end : End) (before after : SinkModel) : Type 0 where
  pub run : HasRun d m actors answers e c
  pub text : EndsWith end before after (run_text answers run.new) answers run.new.stop

-- What follows the replies of a run was written behind them: the run's text is whole, or the sink has a front of it, and the end says which.
-- It holds of whatever the sink had before the replies.
pub record LeavesEnd {T E : Type 0} (m : Machine) (put : Result T E) (answers : List Answered) (end : End) (sink after : SinkModel) : Type 0 where
  pub text : (before : SinkModel) → Puts (flat_map answer_text answers) put before sink → EndsWith end before after (run_text answers m) answers m.stop
  -- a sink that failed before is given nothing more
  pub silent : OnErr put (after ≡ sink)
  pub begun : end ≢ ends.NoMemory
  pub later : sink.faults ≤ after.faults

-- What a run of a core leaves. For want of memory, which is asked for before the first step alone, the core, its disk and the sink are as
-- they were, and there is no answer. Else it comes to what is said, of each machine that the core showed. The sink's count of faults
-- doesn't fall.
pub record LeavesRun {D K : Type 0} {g : Ghosts D} (comes : Machine → Type 0) (disk : D → DiskModel) (put : K → SinkModel) (core : Core D g) (sink : K) (ran : Ran D K g) : Type 0 where
  pub unbegun : ran.end ≡ ends.NoMemory → (core_seen ran.core ≡ core_seen core) × (core_disk ran.core ≡ core_disk core) × (ran.sink ≡ sink) × (ran.answered.items ≡ [])
  pub runs : ran.end ≢ ends.NoMemory → (m : Machine) → MayStep (disk (core_disk core)) (core_seen core) m → comes m
  pub later : (put sink).faults ≤ (put ran.sink).faults
