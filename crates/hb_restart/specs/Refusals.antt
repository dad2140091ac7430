-- What opening a file finds before it writes, and why a file isn't opened.
use Rattle.std.specs.Prelude.{◌≡◌, ◌⊎◌, ℕ, ◌*◌, ◌≤◌, ◌<◌, List, length, None, IfSome}
use Rattle.hb_space.specs.declared.form.TheConstants.{PAGE}
use Rattle.hb_disk.specs.Model.{DiskModel}
use Rattle.hb_super.specs.Superblocks.{IsNewest, HasNone}
use Rattle.hb_frag.specs.declared.pages.Page.{Page}
use Rattle.hb_frag.specs.Grammar.{SpellsPage}
use Rattle.hb_layout.specs.declared.meta.Meta.{Meta}
use Rattle.hb_layout.specs.Offsets.{file_size}
use Rattle.hb_log_codec.specs.Groups.{Logged}
use Rattle.hb_ops.specs.Files.{FileState}
use Rattle.hb_ops.specs.Sound.{IsSound}
use Rattle.hb_sound.specs.Names.{NamesIn}
use Rattle.hb_sound.specs.Walks.{IsLeast}
use Rattle.hb_store.specs.Opening.{HasBadGroup, HasGroups, OpensTo, Shows, place_bytes}
use Rattle.hb_store.specs.Replay.{Replayed, untouched, replay}
use Rattle.hb_restart.specs.declared.faults.OpenFault.{OpenFault}
use Rattle.hb_restart.specs.declared.faults.OpenFault.TheVariants as faults

-- the newest superblock, on bytes that have room for its layout
pub record HasLayout (bytes : List ℕ) (turn : ℕ) (said : Meta) : Type 0 where
  pub newest : IsNewest bytes turn said
  pub fits : file_size said ≤ length bytes

-- what the log of a file gives, where it has no bad frame
abbrev pub LogSays : List ℕ → ℕ → Meta → List Logged → Type 0
LogSays bytes turn said groups = (payloads : List (List ℕ)) × HasGroups bytes turn said payloads groups

-- a number up to the highest page beyond the pages that the file may have, or of a page that the log doesn't touch, where
-- the bytes in its place are none
abbrev pub LacksPage : List ℕ → Meta → Replayed → ℕ → Type 0
LacksPage bytes said t id = (1 ≤ id) × (id ≤ t.meta.high)
    × ((said.pages < id) ⊎ ((t.page id ≡ None) × ((p : Page) → SpellsPage (place_bytes said id bytes) p → ⊥)))

-- The audit refuses: the least page that is none, by rule 0, or where each is one, the first rule that the file breaks.
abbrev pub IsUnsound : List ℕ → Meta → List Logged → ℕ → ℕ → Type 0
IsUnsound bytes said groups page rule =
    ((rule ≡ 0) × IsLeast (LacksPage bytes said (replay (untouched said) groups)) page)
    ⊎ (((id : ℕ) → ¬ (LacksPage bytes said (replay (untouched said) groups) id))
    × (s : FileState) × Shows bytes said (replay (untouched said) groups) s × NamesIn s page rule)

abbrev pub IsSmall : List ℕ → ℕ → ℕ → Type 0
IsSmall bytes needed found = (found ≡ length bytes) × (found < needed)
    × ((needed ≡ 2 * PAGE) ⊎ ((2 * PAGE ≤ found) × (turn : ℕ) × (said : Meta) × IsNewest bytes turn said × (needed ≡ file_size said)))

-- Why bytes aren't opened, in the order in which it is tested. A fault of the disk and want of memory say nothing of them.
abbrev pub RefusesBytes : OpenFault → List ℕ → Type 0
RefusesBytes (faults.Small needed found) bytes = IsSmall bytes needed found
RefusesBytes faults.NoSuper bytes = (2 * PAGE ≤ length bytes) × HasNone bytes
RefusesBytes (faults.BadGroup frame) bytes = (turn : ℕ) × (said : Meta) × HasLayout bytes turn said × HasBadGroup bytes turn said frame
RefusesBytes (faults.Unsound page rule) bytes = (turn : ℕ) × (said : Meta) × HasLayout bytes turn said × (groups : List Logged) × LogSays bytes turn said groups × IsUnsound bytes said groups page rule
RefusesBytes other bytes = Unit {0}

-- whatever the disk was, it is small by its size
abbrev pub IsShut : ℕ → OpenFault → Type 0
IsShut size (faults.Small needed found) = (found ≡ size) × (found < needed)
IsShut size other = Unit {0}

-- why a disk isn't opened
pub record IsRefusal (d : DiskModel) (fault : OpenFault) : Type 0 where
  pub why : IfSome d.told (RefusesBytes fault)
  pub shut : IsShut d.size fault

-- nothing is written before these
abbrev pub IsUnwritten : OpenFault → Type 0
IsUnwritten faults.DiskFault = ⊥
IsUnwritten faults.NoMemory = ⊥
IsUnwritten other = Unit {0}

-- a fault of the disk and want of memory: no refusal of the bytes
abbrev pub IsNoRefusal : OpenFault → Type 0
IsNoRefusal fault = (fault ≡ faults.DiskFault) ⊎ (fault ≡ faults.NoMemory)

-- bytes that open to a sound file are refused for no reason of theirs
abbrev pub GoodIsNotRefused : Type 0
GoodIsNotRefused = (fault : OpenFault) (bytes : List ℕ) (s : FileState) → OpensTo bytes s → IsSound s → RefusesBytes fault bytes → IsNoRefusal fault

-- Bytes are refused in one way: two refusals of them are the same.
abbrev pub IsRefusedOnce : Type 0
IsRefusedOnce = (bytes : List ℕ) (fault other : OpenFault) → RefusesBytes fault bytes → RefusesBytes other bytes → IsUnwritten fault → IsUnwritten other → fault ≡ other
