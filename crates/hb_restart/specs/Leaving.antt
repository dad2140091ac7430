-- What opening or making a file makes of its disk, and what it leaves of that, whether it succeeds or not, and of a store:
-- the touched pages are written to their places, each once and in the order of their numbers, and the next turn begins.
use Rattle.std.specs.Prelude.{◌≡◌, ℕ, ◌+◌, ◌≤◌, List, [], length, Option, IfSome, IsSome, Result, Ok, Err}
use Rattle.hb_disk.specs.Model.{DiskModel}
use Rattle.hb_disk.specs.Calls.{Leaves}
use Rattle.hb_frag.specs.declared.pages.Page.{Page}
use Rattle.hb_layout.specs.declared.meta.Meta.{Meta}
use Rattle.hb_ops.specs.Files.{FileState, file_records}
use Rattle.hb_ops.specs.Sound.{IsSound}
use Rattle.hb_super.specs.Superblocks.{IsNewest}
use Rattle.hb_sound.specs.Told.{HasBoundedMeta}
use Rattle.hb_store.specs.Keeps.{StoreKeeps}
use Rattle.hb_store.specs.Opening.{OpensTo, IsEven}
use Rattle.hb_store.specs.States.{IsNew, IsSameLayout, StoreState}
use Rattle.hb_store.specs.Turning.{StillOpens}
use Rattle.hb_restart.specs.Beyond.{KeepsBeyondFile}
use Rattle.hb_restart.specs.Renewing.{WritesEachOnce, WritesAll, DiskFaults}

-- the disk that a call hands on: in what it made, or beside the fault
abbrev pub disk_left : {A F D : Type 0} → Result A (F × D) → (A → D) → D
disk_left (Ok made) disk_in = disk_in made
disk_left (Err e) disk_in = e.1

-- it failed for this reason
abbrev pub FailedBy : {A F D : Type 0} → F → Result A (F × D) → Type 0
FailedBy fault (Ok made) = ⊥
FailedBy fault (Err e) = e.0 ≡ fault

-- What is said of each way in which bytes open: the pages that their log touches.
abbrev pub InEachWay : Option (List ℕ) → (List ℕ → Meta → (ℕ → Option Page) → Type 0) → Type 0
InEachWay told W = IfSome told (λ b. (turn : ℕ) (said meta : Meta) (touched : ℕ → Option Page) (s : FileState) → StillOpens turn said meta touched s b → W b meta touched)

-- what an opening leaves of its disk
pub record LeavesOpening (failed : Type 0) (old new : DiskModel) : Type 0 where
  -- over an even disk every image since the call opens to the same file
  pub even : (s : FileState) → IsEven old s → Leaves old new (λ c. OpensTo c s)
  -- over any other disk that tells, every image since the first sync does: a second tick comes only after it
  pub late : IfSome old.told (λ b. (s : FileState) → OpensTo b s → old.clock + 2 ≤ new.clock → (c : List ℕ) → new.ImageSince (old.clock + 1) c → OpensTo c s)
  -- behind the first call each page that the log touches is written once, and no call is on another page's place
  pub once : InEachWay old.told (λ b meta touched. WritesEachOnce (old.clock + 1) b meta touched new)
  -- only the bytes of the file may be other ones
  pub beyond : KeepsBeyondFile old new
  pub faults : DiskFaults failed old new

-- more, where it succeeds: of the disk, whose file has so many pages
pub record RunsThrough (pages : ℕ) (old new : DiskModel) : Type 0 where
  pub silent : IsSome new.told → IsSome old.told
  -- every image since the first sync opens to the file
  pub late : IfSome old.told (λ b. (s : FileState) → OpensTo b s → (c : List ℕ) → new.ImageSince (old.clock + 1) c → OpensTo c s)
  -- a sync, a write for each touched page in the order of their numbers, and at most eleven calls more
  pub once : InEachWay old.told (λ b meta touched. WritesAll (old.clock + 1) b meta touched new)
  pub least : IsSome old.told → old.clock + 1 ≤ new.clock
  -- a call for each page, and twelve more: two syncs, two calls for the log area, two for a hidden body, six for the superblock
  pub most : IsSome old.told → new.clock ≤ old.clock + (pages + 12)

-- and of the store that it gives
pub record OpensStore (old new : DiskModel) (store : StoreState) (count : ℕ) : Type 0 where
  -- the bytes open to a sound file of so many records, which the store keeps
  pub file : IfSome old.told (λ b. (s : FileState) × OpensTo b s × IsSound s × (count ≡ length (file_records s)) × StoreKeeps new store s [])
  -- over every disk the store is new, and the numbers of its file are within their limits
  pub is_new : IsNew store.turn store.meta store
  pub bounded : HasBoundedMeta store.meta
  -- the file says of itself what the store has, and the newest superblock has its layout
  pub meta : IfSome old.told (λ b. (s : FileState) → OpensTo b s → s.meta ≡ store.meta)
  pub said : IfSome old.told (λ b. (turn : ℕ) (said : Meta) → IsNewest b turn said → IsSameLayout said store.meta)
