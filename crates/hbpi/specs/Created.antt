-- What the parts of making a file say.
use Rattle.std.specs.Prelude.{◌≡◌, ℕ, ◌<◌, ◌≤◌, Option, Some, None}
use Rattle.hb_outside.specs.Streams.{Rose}
use Rattle.hb_restart.specs.declared.faults.BadField.{BadField}
use Rattle.hb_restart.specs.declared.faults.CreateFault.{CreateFault}
use Rattle.hb_restart.specs.declared.faults.CreateFault.TheVariants.{BadLayout, Small, DiskFault, NoMemory}
use Rattle.hbpi.specs.declared.statuses.Status.{Status}
use Rattle.hbpi.specs.declared.statuses.Status.TheVariants as statuses

-- why a file was not made whose layout has this bad field and wants so many bytes, on a disk of this size with these
-- counts of failed writes
abbrev pub NotMadeOn : Option BadField → ℕ → ℕ → ℕ → ℕ → CreateFault → Type 0
NotMadeOn fault needed size before after (BadLayout bad) = (fault ≡ Some bad) × (after ≡ before)
NotMadeOn fault needed size before after (Small wanted found) = (fault ≡ None) × (wanted ≡ needed) × (found ≡ size) × (size < needed) × (after ≡ before)
NotMadeOn fault needed size before after DiskFault = (fault ≡ None) × (needed ≤ size) × Rose before after
NotMadeOn fault needed size before after NoMemory = (fault ≡ None) × (needed ≤ size) × (after ≡ before)

-- no file was made, for the layout or for the size of the disk
abbrev pub IsUnmade : Status → Type 0
IsUnmade (statuses.BadLayout field value) = Unit {0}
IsUnmade (statuses.Small wanted found) = Unit {0}
IsUnmade _ = ⊥
