-- What looks at the file come to: nothing in it changes, and what they see is of it.
use Rattle.std.specs.Prelude.{◌≡◌, List, [], All, Result, Ok, Err, IfOk, OnOk, IfSome, Option, Some, None}
use Rattle.hb_activity.specs.declared.jobs.Job.{Job}
use Rattle.hb_disk.specs.Model.{DiskModel}
use Rattle.hb_frag.specs.declared.pages.Page.{Page}
use Rattle.hb_ops.specs.Files.{FileState}
use Rattle.hb_core.specs.declared.copies.CopyStop.{CopyStop}
use Rattle.hb_core.specs.declared.copies.CopyStop.TheVariants as copies
use Rattle.hb_steps.specs.KeptFits.{JobFits}
use Rattle.hb_steps.specs.Machines.{Machine}
use Rattle.hb_core.specs.Showing.{RunningCore}
use Rattle.hb_core.specs.Working.{MayStep}
use Rattle.hb_tidy.specs.declared.stops.TidyStop.{TidyStop}
use Rattle.hb_tidy.specs.declared.stops.TidyStop.TheVariants as stops
use Rattle.hb_tidy.specs.Counted.{EndsSpent}
use Rattle.hb_tidy.specs.Going.{AllRest, Does, MayTidy}
use Rattle.hb_tidy.specs.Owed.{FindsJobs}
use Rattle.hb_tidy.specs.Tidying.{file_now}

-- the file stays, and what it says of itself
pub record FileStays (m new : Machine) : Type 0 where
  pub file : file_now new ≡ file_now m
  pub meta : new.store.meta ≡ m.store.meta

-- From one machine: over a disk that tells, what was seen is so related to its file.
pub record Looks {T : Type 0} (result : Result T TidyStop) (says : T → FileState → Type 0) (d : DiskModel) (old : RunningCore) (m : Machine) (e : DiskModel) (c : RunningCore) : Type 0 where
  pub does : Does result d old m e c
  pub same : FileStays m does.run.new
  pub ok : IfOk result (λ v. IfSome (file_now m) (says v))

-- From each machine that the core showed of whose file this is known already. Where no job waits, none did before; and nobody comes to
-- have anything in hand.
pub record LooksOver {T : Type 0} (knows : FileState → Type 0) (result : Result T TidyStop) (says : T → FileState → Type 0) (d : DiskModel) (old : RunningCore) (e : DiskModel) (new : RunningCore) : Type 0 where
  pub looks : (m : Machine) → MayStep d old m → IfSome (file_now m) knows → Looks result says d old m e new
  pub spent : EndsSpent result new
  pub may : OnOk result (MayTidy e new)
  pub meta : new.store.meta ≡ old.store.meta
  pub waiting : new.jobs ≡ [] → old.jobs ≡ []
  pub rests : AllRest old → AllRest new

-- nothing is known of a file, or said of what was seen
abbrev pub NothingOf : FileState → Type 0
NothingOf s = Unit {0}

-- A look at a part of the file, by which jobs were added for what was found. Where those before fit the file each does.
pub record LooksForJobs (knows : FileState → Type 0) (result : Result (Unit {0}) TidyStop) (P : FileState → Type 0) (before after : List Job) (d : DiskModel) (old : RunningCore) (e : DiskModel) (new : RunningCore) : Type 0 where
  pub looks : LooksOver knows result (λ v s. FindsJobs s (P s) before after) d old e new
  pub fit : All (JobFits old.store.meta.k) before → OnOk result (All (JobFits old.store.meta.k) after)

-- What a look comes to, by what the core said of it: the page, or no page where there was no place for it.
abbrev pub SeesBy : Result Page CopyStop → Result (Option Page) TidyStop → Type 0
SeesBy (Ok page) seen = seen ≡ Ok (Some page)
SeesBy (Err copies.Crowded) seen = seen ≡ Ok None
SeesBy (Err copies.ReadFault) seen = seen ≡ Err stops.ReadFault
SeesBy (Err copies.NoMemory) seen = seen ≡ Err stops.NoMemory
SeesBy (Err (copies.Damaged page why)) seen = seen ≡ Err (stops.Damaged page why)
