-- What a tidying comes to, from a machine that a core shows to one that it shows then, and how it ends.
use Rattle.std.specs.Prelude.{◌≡◌, ◌-◌, ◌^◌, [], Result, Ok, Err, IfSome, IsSome, Option, Some, None, option_map}
use Rattle.hb_disk.specs.Calls.{Becomes}
use Rattle.hb_disk.specs.Model.{DiskModel}
use Rattle.hb_layout.specs.Offsets.{file_size}
use Rattle.hb_ops.specs.Files.{FileState, contents_of}
use Rattle.hb_outside.specs.Streams.{Rose}
use Rattle.hb_set.specs.Machine.{RecordSet}
use Rattle.hb_store.specs.declared.stops.StopWhy.TheVariants as whys
use Rattle.hb_core.specs.declared.counts.TidyCounts.{TidyCounts}
use Rattle.hb_core.specs.Counting.{CountsWithin}
use Rattle.hb_steps.specs.KeptMachine.{CoreKeeps}
use Rattle.hb_steps.specs.Machines.{Files, Machine, current_file}
use Rattle.hb_core.specs.Runs.{ChangesFile, CountsFaults, CrashesTo}
use Rattle.hb_core.specs.Showing.{RunningCore, ShowsMachine}
use Rattle.hb_core.specs.Taking.{all_idle}
use Rattle.hb_core.specs.Relied.{MayRun}
use Rattle.hb_core.specs.Going.{MayGoOn}
use Rattle.hb_tidy.specs.declared.stops.TidyStop.{TidyStop}
use Rattle.hb_tidy.specs.declared.stops.TidyStop.TheVariants as stops
use Rattle.hb_tidy.specs.Finding.{IsTidy, WantsPage}

-- each actor is between commands and jobs
abbrev pub AllAtRest : RunningCore → Type 0
AllAtRest c = c.activities ≡ all_idle

-- A core may be tidied: it isn't stopped, its actors are between commands and jobs, and it has counted no more operations of a kind
-- than steps.
pub record MayBeTidied (d : DiskModel) (c : RunningCore) : Type 0 where
  pub may : MayRun d c
  pub idle : AllAtRest c
  pub counts : CountsWithin c

-- What is kept over a disk that tells, from a set on: all that was kept there, and the contents of the file. What crashes leave has
-- the set after a prefix of the order.
pub record KeepsSet (n : RecordSet) (d : DiskModel) (files : Files) (e : DiskModel) (new : Machine) : Type 0 where
  pub after : Files
  pub keeps : CoreKeeps n new after
  pub contents : contents_of (current_file after) ≡ contents_of (current_file files)
  pub crashes : CrashesTo n d e new []

-- The core shows a machine then of which steps may be taken as before. No line was answered, and none joined the order. Only bytes of
-- the file may be other ones.
pub record HasTidied (d : DiskModel) (m : Machine) (e : DiskModel) (c : RunningCore) : Type 0 where
  pub new : Machine
  pub shows : ShowsMachine e c new
  pub goes_on : MayGoOn new
  pub lines : new.lines ≡ m.lines
  pub answered : new.answered ≡ m.answered
  pub order : new.order ≡ m.order
  pub size : file_size new.store.meta ≡ file_size m.store.meta
  pub faults : CountsFaults d e [] m.stop new.stop
  pub in_file : Becomes (ChangesFile m.store) d e
  pub kept : (n : RecordSet) (files : Files) → CoreKeeps n m files → KeepsSet n d files e new

-- the file as the steps see it, where the disk tells
abbrev pub file_now : Machine → Option FileState
file_now m = option_map current_file m.files

-- Why it ended before the file was tidy: no page is free, and one is wanted; a fault of the disk, which was counted; a damaged page,
-- which only a disk has that tells nothing; or the count of steps has come to its last value.
abbrev pub StopsTidying : TidyStop → DiskModel → DiskModel → RunningCore → Machine → Type 0
StopsTidying stops.Full d e c new = (new.stop ≡ None) × (new.store.meta.live ≡ new.store.meta.pages) × IfSome (file_now new) WantsPage
StopsTidying stops.ReadFault d e c new = Rose d.read_faults e.read_faults
StopsTidying stops.WriteFault d e c new = Rose d.write_faults e.write_faults × (new.stop ≡ Some whys.WriteFault)
StopsTidying (stops.Damaged page why) d e c new = (¬ (IsSome d.told)) × (new.stop ≡ Some (whys.Damaged page why))
StopsTidying stops.Spent d e c new = c.taken ≡ 2 ^ 64 - 1
StopsTidying stops.NoMemory d e c new = Unit {0}

-- How it ends. Where it is done, it says which operations were done.
abbrev pub EndsTidying : DiskModel → DiskModel → RunningCore → TidyCounts → Machine → Result TidyCounts TidyStop → Type 0
EndsTidying d e c did new (Ok counts) = (new.stop ≡ None) × IfSome (file_now new) IsTidy × (counts ≡ did)
EndsTidying d e c did new (Err stop) = StopsTidying stop d e c new
