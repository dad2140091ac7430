-- How a run of `tidy` ends, and why.
use Rattle.std.specs.Prelude.{◌≡◌, ◌⊎◌, List, [], All, Result, Ok, Err, MatchResult, None, Some, IfSome, IsSome, ◌-◌, ◌^◌}
use Rattle.hb_steps.specs.Machines.{Files, Machine, current_file}
use Rattle.hb_core.specs.Runs.{CountsFaults}
use Rattle.hb_core.specs.Showing.{RunningCore}
use Rattle.hb_steps.specs.SteppingLaws.{IsBegun, IsBegunOver}
use Rattle.hb_core.specs.declared.counts.TidyCounts.{TidyCounts}
use Rattle.hb_space.specs.declared.actors.TheConstants.{FLUSHER}
use Rattle.hb_steps.specs.Steps.{StepsTo}
use Rattle.hb_steps.specs.declared.outcomes.Outcome.{Outcome}
use Rattle.hb_steps.specs.declared.outcomes.Outcome.TheVariants as outcomes
use Rattle.hb_disk.specs.Model.{DiskModel}
use Rattle.hb_layout.specs.declared.meta.Meta.{Meta}
use Rattle.hb_ops.specs.Files.{FileState}
use Rattle.hb_ops.specs.Sound.{IsSound}
use Rattle.hb_outside.specs.Calls.{SinkModel}
use Rattle.hb_outside.specs.Streams.{Rose}
use Rattle.hb_restart.specs.declared.faults.OpenFault.{OpenFault}
use Rattle.hb_store.specs.Opening.{OpensTo}
use Rattle.hb_store.specs.declared.stops.StopWhy.TheVariants as stops
use Rattle.hb_tidy.specs.Finding.{IsTidy, WantsPage}
use Rattle.hb_tidy.specs.Tidying.{MayBeTidied}
use Rattle.hb_tidy.specs.declared.stops.TidyStop.{TidyStop}
use Rattle.hb_tidy.specs.declared.stops.TidyStop.TheVariants as tidies
use Rattle.hbpi.specs.Driven.{BeginsOpened, IsShutOut, IsTurnedAway}
use Rattle.hbpi.specs.Codes.{status_of, tidy_status}
use Rattle.hbpi.specs.Outcome.{GetsLine, fault_line}
use Rattle.hbpi.specs.Saying.{IsSaid}
use Rattle.hbpi.specs.SeenRuns.{IsAlone, Run}
use Rattle.hbpi.specs.declared.statuses.Status.{Status}
use Rattle.hb_tidy.specs.Working.{DropsAtEnd, DropsNone, Event, WorksOff, operations_in, steps_in}
use Rattle.hb_tidy.specs.Counted.{GrewBy}
use Rattle.hbpi.specs.Tidied.{LeavesTidied, nobody, tidied_text}

-- The last thing that happened to a machine that was tidied. Where it is done the flusher took one step, so that no group waits; a fault may
-- have been met in that step.
abbrev pub IsForced : Result TidyCounts TidyStop → Machine → Machine → Type 0
IsForced (Ok counts) tidied after = (outcome : Outcome) × StepsTo tidied FLUSHER outcome after
IsForced (Err tidies.WriteFault) tidied after = (after ≡ tidied) ⊎ StepsTo tidied FLUSHER (outcomes.Stopped stops.WriteFault) after
IsForced (Err stop) tidied after = after ≡ tidied

-- What happened to a machine leads from it to this one: each step has its cause, and over a disk that tells each job was owed. No step
-- dropped one, or none but the last where it isn't done.
pub record IsTidiedBy (events : List Event) (before after : Machine) (result : Result TidyCounts TidyStop) : Type 0 where
  pub tidied : Machine
  pub works : WorksOff events before tidied
  pub drops : MatchResult result (λ counts. All DropsNone events) (λ stop. DropsAtEnd events)
  pub forced : IsForced result tidied after

-- What stopped it on its way to this machine: nothing where it is done, and the counts are those of the operations on that way; nothing but that no page is free; a count of faults that rose; a
-- damaged page, which only a disk has that tells nothing; or want of steps, of which the last count was taken.
abbrev pub TidyWhy : DiskModel → DiskModel → List Event → Machine → Result TidyCounts TidyStop → Type 0
TidyWhy d e events m (Ok counts) = (m.stop ≡ None) × (counts ≡ operations_in events)
TidyWhy d e events m (Err tidies.Full) = (m.stop ≡ None) × (m.store.meta.live ≡ m.store.meta.pages)
TidyWhy d e events m (Err tidies.ReadFault) = Rose d.read_faults e.read_faults
TidyWhy d e events m (Err tidies.WriteFault) = Rose d.write_faults e.write_faults
TidyWhy d e events m (Err (tidies.Damaged page why)) = (¬ (IsSome d.told)) × (m.stop ≡ Some (stops.Damaged page why))
TidyWhy d e events m (Err tidies.Spent) = steps_in events ≡ 2 ^ 64 - 1
TidyWhy d e events m (Err tidies.NoMemory) = Unit {0}

-- The machine's files then, by what they said of themselves before: where it is done no group waits, and the file is tidy.
abbrev pub FilesTidied : Meta → Result TidyCounts TidyStop → Files → Type 0
FilesTidied meta (Ok counts) files = (files.later ≡ []) × IsTidy files.durable × GrewBy meta files.durable.meta counts
FilesTidied meta (Err tidies.Full) files = WantsPage (current_file files)
FilesTidied meta (Err stop) files = Unit {0}

-- A core may be tidied that has taken no step.
pub record MayTidyFirst (d : DiskModel) (c : RunningCore) : Type 0 where
  pub fit : MayBeTidied d c
  pub first : c.taken ≡ 0

-- A core was tidied and flushed: from a machine to this one.
pub record EndsForced (d e : DiskModel) (m new : Machine) (result : Result TidyCounts TidyStop) : Type 0 where
  pub events : List Event
  pub works : IsTidiedBy events m new result
  pub why : TidyWhy d e events new result
  pub files : IfSome new.files (FilesTidied m.store.meta result)

-- The file was opened and tidied, so far as the result says: from a machine that has taken no step and has no line, by what happened to it,
-- to this one.
pub record TidiesFile (run : Run) (after : Machine) (result : Result TidyCounts TidyStop) : Type 0 where
  pub before : Machine
  pub begun : IsBegun before
  pub begins : BeginsOpened run before
  pub no_line : before.lines ≡ []
  pub no_order : after.order ≡ []
  pub alone : IsAlone run.seen
  pub faults : CountsFaults run.before run.after [] None after.stop
  pub events : List Event
  pub works : IsTidiedBy events before after result
  pub why : TidyWhy run.before run.after events after result
  pub told : IfSome run.before.told (λ b. (s : FileState) × OpensTo b s × IsSound s × IsBegunOver before s × LeavesTidied s run.before run.after after result)

-- what it says: its line, or the fault line of why it isn't done
abbrev pub SaysTidied : Result TidyCounts TidyStop → SinkModel → SinkModel → Status → Type 0
SaysTidied (Ok counts) before after status = IsSaid (tidied_text counts) before after status
SaysTidied (Err stop) before after status = (status ≡ tidy_status stop) × GetsLine before after (fault_line status)

-- How a run of `tidy` ends: its file wasn't opened; or memory was refused for a core; or it was tidied, as far as it went.
abbrev pub TidyEnds : Run → Status → Type 0
TidyEnds run status =
    ((fault : OpenFault) × (status ≡ status_of fault) × IsShutOut run fault)
    ⊎ IsTurnedAway nobody run status
    ⊎ ((after : Machine) × (result : Result TidyCounts TidyStop) × TidiesFile run after result × SaysTidied result run.seen.sink_before run.seen.sink_after status)
