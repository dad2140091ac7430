-- What a run of `tidy` leaves of its file, by its status.
use Rattle.std.specs.Prelude.{◌≡◌, ◌⊎◌, ℕ, ◌+◌, List, [], ◌++◌, codes, length, Result, Ok, Err, Some}
use Rattle.std.specs.Fmt.{decimal}
use Rattle.hb_steps.specs.Machines.{Files, Machine, current_file}
use Rattle.hb_steps.specs.MomentLaws.{IsPrefixImage}
use Rattle.hb_core.specs.Showing.{ShowsFiles}
use Rattle.hb_core.specs.declared.counts.TidyCounts.{TidyCounts}
use Rattle.hb_disk.specs.Calls.{Leaves}
use Rattle.hb_disk.specs.Model.{DiskModel}
use Rattle.hb_layout.specs.declared.meta.Meta.{Meta}
use Rattle.hb_ops.specs.Files.{FileState, contents_of}
use Rattle.hb_ops.specs.Settled.{HasLoneRoot}
use Rattle.hb_sound.specs.PointWalks.{IsPointOf, IsWholeWalk}
use Rattle.hb_ops.specs.Sound.{IsSound}
use Rattle.hb_outside.specs.Streams.{Appends, Rose}
use Rattle.hb_store.specs.Opening.{IsEven, OpensTo}
use Rattle.hb_tidy.specs.Counted.{GrewBy}
use Rattle.hb_tidy.specs.Finding.{IsTidy, WantsPage}
use Rattle.hb_tidy.specs.declared.stops.TidyStop.{TidyStop}
use Rattle.hb_tidy.specs.declared.stops.TidyStop.TheVariants as tidies
use Rattle.hbpi.specs.Drives.{LeavesLate}
use Rattle.hbpi.specs.SeenRuns.{HasFailed, Run}
use Rattle.hbpi.specs.declared.origins.Origin.{Origin}
use Rattle.hbpi.specs.declared.origins.Origin.TheVariants.{Drawn}
use Rattle.hbpi.specs.declared.statuses.Status.{Status}
use Rattle.hbpi.specs.declared.statuses.Status.TheVariants.{Done, Full, NoMemory, Spent}

-- a script of no line: nobody commands
abbrev pub nobody : Origin
nobody = Drawn 0 0

-- the line of a tidying: how many operations of each kind it did
abbrev pub tidied_text : TidyCounts → List ℕ
tidied_text c = codes "tidy grown " ++ decimal c.grown ++ codes " posted " ++ decimal c.posted ++ codes " split " ++ decimal c.split ++ codes " merged " ++ decimal c.merged ++ codes "\n"

-- An image opens to a sound file with the contents of this one, in which each point has one page.
abbrev pub HasContents : FileState → List ℕ → Type 0
HasContents s c = IsPrefixImage (contents_of s) [] 0 c

-- A sound file with the contents of this one.
pub record HasSameRecords (s t : FileState) : Type 0 where
  pub sound : IsSound t
  pub contents : contents_of t ≡ contents_of s

-- Where the tidying is done every image opens to the durable file, which is tidy, and grew by what is counted. Where no page is free, the
-- file wants one.
abbrev pub IsTidied : FileState → DiskModel → Files → Result TidyCounts TidyStop → Type 0
IsTidied s e files (Ok counts) = HasSameRecords s files.durable × IsEven e files.durable × IsTidy files.durable × GrewBy s.meta files.durable.meta counts
IsTidied s e files (Err tidies.Full) = HasSameRecords s (current_file files) × WantsPage (current_file files)
IsTidied s e files (Err stop) = Unit {0}

-- What a tidying that came to this machine leaves of a file: at each moment a sound file with its contents; and at the end the machine's
-- files are those of the disk.
pub record LeavesTidied (s : FileState) (d e : DiskModel) (after : Machine) (result : Result TidyCounts TidyStop) : Type 0 where
  pub even : IsEven d s → Leaves d e (HasContents s)
  pub late : LeavesLate d e (HasContents s)
  pub shows : ShowsFiles e after
  pub ends : IsTidied s e shows.files result

-- What follows where it is done over a disk that tells and opens to this sound file: its line was put, and every image opens to one file
-- then, which has the same records and is tidy. Each whole walk from the root has as many pages as it has levels, unless the root has
-- a sibling leaf, which only a file of the greatest height keeps.
pub record KeepsTidied (s : FileState) (run : Run) : Type 0 where
  pub counts : TidyCounts
  pub line : Appends run.seen.sink_before.written run.seen.sink_after.written (tidied_text counts)
  pub file : FileState
  pub same : HasSameRecords s file
  pub even : IsEven run.after file
  pub tidy : IsTidy file
  pub grew : GrewBy s.meta file.meta counts
  pub walks : HasLoneRoot file → (p rest : List ℕ) (last : ℕ) → IsPointOf file p → IsWholeWalk file p file.meta.root rest last → length rest + 1 ≡ file.meta.height

-- Where no call failed over such a disk, it is done, unless memory was refused, no page was free where one was wanted, or the core's count
-- of steps ran out.
abbrev pub IsTidiedWhole : FileState → Run → Status → Type 0
IsTidiedWhole s run status = (b : List ℕ) → run.before.told ≡ Some b → OpensTo b s → IsSound s → ¬ (HasFailed run) → ¬ (Rose run.seen.sink_before.faults run.seen.sink_after.faults) →
    (status ≡ Done) ⊎ (status ≡ NoMemory) ⊎ (status ≡ Full) ⊎ (status ≡ Spent)
