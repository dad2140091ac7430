-- What opening a file finds before it writes.
use Rattle.std.specs.Prelude.{◌≡◌, ℕ, ◌≤◌, List, length, Option, Some}
use Rattle.hb_super.specs.Superblocks.{IsLegal}
use Rattle.hb_frag.specs.declared.pages.Page.{Page}
use Rattle.hb_frag.specs.Grammar.{HasSpelling}
use Rattle.hb_layout.specs.declared.meta.Meta.{Meta}
use Rattle.hb_layout.specs.Offsets.{file_size}
use Rattle.hb_ops.specs.Files.{FileState, file_records}
use Rattle.hb_ops.specs.Sound.{IsSound}
use Rattle.hb_restart.specs.declared.faults.OpenFault.{OpenFault}
use Rattle.hb_restart.specs.declared.faults.OpenFault.TheVariants as faults
use Rattle.std.specs.Ordering.{nat_cmp}
use Rattle.std.specs.BTreeMap.{get}
use Rattle.hb_super.specs.declared.reading.SuperStop.{SuperStop}
use Rattle.hb_super.specs.declared.reading.SuperStop.TheVariants as supers
use Rattle.hb_sound.specs.Told.{HasBoundedMeta}
use Rattle.hb_sound.specs.declared.pages.AuditStop.{AuditStop}
use Rattle.hb_sound.specs.declared.pages.AuditStop.TheVariants as stops
use Rattle.hb_store.specs.LogReading.{ReadsLog, IsTouched}
use Rattle.hb_store.specs.Turning.{StillOpens}
use Rattle.hb_store.specs.declared.touched.LogStop.{LogStop}
use Rattle.hb_store.specs.declared.touched.LogStop.TheVariants as logs
use Rattle.hb_store.specs.declared.touched.Touched.{Touched}
use Rattle.hb_restart.specs.declared.looking.Found.{Found}
use Rattle.hb_restart.specs.declared.reading.LogRead.{LogRead}
use Rattle.hb_restart.specs.Refusals.{HasLayout}

-- the pages that a log touches, by their numbers
abbrev pub touched_pages : Touched → ℕ → Option Page
touched_pages touched id = get nat_cmp touched.pages id

-- a legal turn, over what a file says, on a disk that has room for the file
pub record LiesOn (size turn : ℕ) (meta : Meta) : Type 0 where
  pub legal : IsLegal turn meta
  pub room : file_size meta ≤ size

-- What is read before the audit: the newest superblock, on bytes that have room for its layout, and what its log makes
-- of the file.
pub record IsReadIn (bytes : List ℕ) (read : LogRead) : Type 0 where
  pub has : HasLayout bytes read.turn read.said
  pub log : ReadsLog bytes read.turn read.said read.touched

-- whatever the disk was, that is within its limits
pub record IsWholeRead (size : ℕ) (read : LogRead) : Type 0 where
  pub lies : LiesOn size read.turn read.said
  pub touched : IsTouched read.said read.touched

-- The bytes open to a sound file by the superblock of this turn. It says this of itself and has so many records, and
-- these are the pages that the log touches.
pub record IsFoundIn (bytes : List ℕ) (turn : ℕ) (meta : Meta) (touched : ℕ → Option Page) (count : ℕ) : Type 0 where
  pub said : Meta
  pub file : FileState
  pub opens : StillOpens turn said meta touched file bytes
  pub sound : IsSound file
  pub counted : count ≡ length (file_records file)

-- What may be renewed, whatever the disk was: such a file, whose numbers are within their limits, and of which each touched
-- page has a spelling.
pub record IsRenewable (size : ℕ) (found : Found) : Type 0 where
  pub lies : LiesOn size found.turn found.meta
  pub bounded : HasBoundedMeta found.meta
  pub spelled : (id : ℕ) (page : Page) → get nat_cmp found.touched id ≡ Some page → HasSpelling page

-- the refusal where no superblock is read, and where no log is
abbrev pub super_fault : SuperStop → OpenFault
super_fault supers.NoSuper = faults.NoSuper
super_fault supers.DiskFault = faults.DiskFault

abbrev pub log_fault : LogStop → OpenFault
log_fault (logs.BadGroup frame) = faults.BadGroup frame
log_fault logs.NoMemory = faults.NoMemory
log_fault logs.DiskFault = faults.DiskFault

-- the refusal for which an audit stops
abbrev pub audit_fault : AuditStop → OpenFault
audit_fault (stops.Broken page rule) = faults.Unsound page rule
audit_fault stops.Failed = faults.DiskFault
audit_fault stops.NoMemory = faults.NoMemory
