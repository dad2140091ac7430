-- What a caller does to a core between two steps, as relations of the machines that it shows: a job waits, or a page is looked at.
use Rattle.std.specs.Prelude.{◌≡◌, ℕ, List, Some, None, IsSome, IfSome, Result, Ok, Err}
use Rattle.hb_disk.specs.Model.{DiskModel}
use Rattle.hb_activity.specs.declared.jobs.Job.{Job}
use Rattle.hb_activity.specs.Queue.{AddsJob}
use Rattle.hb_frag.specs.declared.pages.Page.{Page}
use Rattle.hb_layout.specs.declared.meta.Meta.{Meta}
use Rattle.hb_ops.specs.Files.{page_of}
use Rattle.hb_store.specs.Calls.{use_fetched}
use Rattle.hb_store.specs.Fetching.{Breaks, IsCrowdedOut}
use Rattle.hb_store.specs.Held.{IsTied}
use Rattle.hb_store.specs.States.{in_memory}
use Rattle.hb_store.specs.declared.stops.FetchStop.{FetchStop}
use Rattle.hb_store.specs.declared.stops.FetchStop.TheVariants as fetches
use Rattle.hb_store.specs.declared.stops.Flushed.{Flushed}
use Rattle.hb_store.specs.declared.stops.Flushed.TheVariants as flushes
use Rattle.hb_store.specs.declared.stops.StopWhy.TheVariants as stops
use Rattle.hb_store.specs.declared.stops.Why.TheVariants.{Rule}
use Rattle.hb_store.specs.declared.stops.WriteFault.{WriteFault}
use Rattle.hb_core.specs.declared.copies.CopyStop.{CopyStop}
use Rattle.hb_core.specs.declared.copies.CopyStop.TheVariants as copies
use Rattle.hb_steps.specs.declared.outcomes.Outcome.{Outcome}
use Rattle.hb_steps.specs.declared.outcomes.Outcome.TheVariants as outcomes
use Rattle.hb_core.specs.CoreUpdates.{with_jobs, with_stop}
use Rattle.hb_steps.specs.Fetching.{Brings, IsBadRead}
use Rattle.hb_steps.specs.Machines.{Machine, current_file, stopped_for, with_disk, with_uses}
use Rattle.hb_core.specs.Showing.{RunningCore}

-- ---- a job

-- A job joins those that wait, where it doesn't wait already and fewer than 256 do. Nothing else changes.
abbrev pub with_waiting : List Job → Machine → Machine
with_waiting jobs m = record m { jobs = jobs }

pub record LetsWait (job : Job) (m new : Machine) : Type 0 where
  pub adds : AddsJob job m.jobs new.jobs
  pub rest : new ≡ with_waiting new.jobs m

-- the same, said of what a core holds
pub record AddsToQueue (job : Job) (old new : RunningCore) : Type 0 where
  pub adds : AddsJob job old.jobs new.jobs
  pub rest : new ≡ with_jobs new.jobs old

-- ---- a page

-- A page is in memory now, as a fetch brings it. The file stays, and so does all that isn't memory.
pub record PageComes (id : ℕ) (m new : Machine) : Type 0 where
  pub brings : Brings m (λ other. other ≡ id) new.store
  pub there : IsSome (in_memory new.store id)
  pub tied : IsTied new.store new.uses
  pub uses : new.uses ≡ use_fetched id m.uses
  pub rest : new ≡ with_uses new.uses (with_disk new.store m.files m.clock m)

-- A page is copied: it is in memory, and over a disk that tells it is the file's. For want of memory it may have come and isn't copied. A
-- read that failed and want of a place leave all as it was. A damaged page stops the machine; only over a disk that tells nothing one is.
abbrev pub CopiesPage : ℕ → Result Page CopyStop → Machine → Machine → Type 0
CopiesPage id (Ok page) m new = PageComes id m new × (in_memory new.store id ≡ Some page) × IfSome m.files (λ files. page_of (current_file files) id ≡ Some page)
CopiesPage id (Err copies.NoMemory) m new = PageComes id m new
CopiesPage id (Err copies.ReadFault) m new = (new ≡ m) × (in_memory m.store id ≡ None)
CopiesPage id (Err copies.Crowded) m new = (new ≡ m) × IsCrowdedOut id m.store m.uses
CopiesPage id (Err (copies.Damaged page why)) m new = (new ≡ stopped_for (stops.Damaged page why) m) × (page ≡ id) × IsBadRead m.files m.store id why

-- which rule a damaged page breaks, from what the disk read as, where it tells
abbrev pub IsNotCopied : Meta → DiskModel → ℕ → CopyStop → Type 0
IsNotCopied meta d id (copies.Damaged page (Rule rule)) = (page ≡ id) × Breaks meta d id rule
IsNotCopied meta d id (copies.Damaged page other) = ⊥
IsNotCopied meta d id other = Unit {0}

-- What a page that isn't fetched makes of a core, and what its caller is told: a damaged one stops it.
abbrev pub FailsToLook : FetchStop → CopyStop → RunningCore → RunningCore → Type 0
FailsToLook (fetches.Damaged page why) said old new = (said ≡ copies.Damaged page why) × (new ≡ with_stop (stops.Damaged page why) old)
FailsToLook fetches.ReadFault said old new = (said ≡ copies.ReadFault) × (new ≡ old)
FailsToLook fetches.Crowded said old new = (said ≡ copies.Crowded) × (new ≡ old)

-- ---- a flush

-- what a step of the flusher says that came to this
abbrev pub said_of_flush : Result Flushed WriteFault → Outcome
said_of_flush (Ok flushes.Forced) = outcomes.Moved
said_of_flush (Ok (flushes.Written page)) = outcomes.Moved
said_of_flush (Ok flushes.Switched) = outcomes.Moved
said_of_flush (Ok flushes.Nothing) = outcomes.Idle
said_of_flush (Err fault) = outcomes.Stopped stops.WriteFault
