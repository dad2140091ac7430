-- What a force finds and leaves on the disk.
use Rattle.std.specs.Prelude.{◌≡◌, ◌⊎◌, ℕ, ◌+◌, ◌-◌, ◌≤◌, List, [], ◌∷◌, ◌++◌, length, replicate, All, IfSome, IsSome}
use Rattle.hb_disk.specs.Model.{DiskModel, Torn}
use Rattle.hb_disk.specs.Calls.{IsSynced}
use Rattle.hb_wal.specs.Frames.{frames, IsPayload, HasFrames, range}
use Rattle.hb_wal.specs.Log.{LogState, Waiting, forced}

-- The disk has this log, where it tells: the area is synced, the written bytes are frames of these payloads, and the
-- rest of the area reads as zeros.
pub record HasLog (d : DiskModel) (log : LogState) (payloads : List (List ℕ)) : Type 0 where
  pub synced : IsSynced d log.area log.len
  pub payloads_fit : All IsPayload payloads
  pub count : length (frames payloads) ≡ log.written
  pub reads : IfSome d.told (λ b. range log.area log.len b ≡ frames payloads ++ replicate (log.len - log.written) 0)

-- The log lies within the disk, and the disk has it, where it tells: then it may be forced.
pub record MayForce (d : DiskModel) (log : LogState) : Type 0 where
  pub inside : log.area + log.len ≤ d.size
  pub has : IsSome d.told → (payloads : List (List ℕ)) × HasLog d log payloads

-- How many calls of the disk a force takes that is done: four where a group waits, and none where none does.
abbrev pub calls_of_force : List Waiting → ℕ
calls_of_force [] = 0
calls_of_force (first ∷ rest) = 4

-- What a crash may leave inside a force: a list of bytes that a crash could leave before, where the area has the
-- frames that it had, or those and one more, of all groups that wait.
pub record ForceLeaves (d : DiskModel) (log : LogState) (payloads : List (List ℕ)) (c : List ℕ) : Type 0 where
  pub before : List ℕ
  pub image : d.Image before
  pub elsewhere : Torn log.area log.len before c
  pub frames_of : HasFrames (range log.area log.len c) payloads ⊎ HasFrames (range log.area log.len c) (payloads ++ forced log.groups)
