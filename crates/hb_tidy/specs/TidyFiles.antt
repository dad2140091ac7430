-- What happens to a file while it is tidied: it grows by the operations that were done. In a file that is tidy nothing is worked off.
use Rattle.std.specs.Prelude.{◌≡◌, ◌≤◌, List, [], All, None, Some}
use Rattle.hb_space.specs.declared.actors.TheConstants.{POSTER, CONSOLIDATOR, FLUSHER}
use Rattle.hb_activity.specs.declared.activities.Activity.TheVariants as at
use Rattle.hb_ops.specs.Files.{FileState}
use Rattle.hb_pool.specs.Frames.{Use}
use Rattle.hb_pool.specs.Pools.{IsPool}
use Rattle.hb_steps.specs.Machines.{Machine}
use Rattle.hb_tidy.specs.Counted.{GrewBy}
use Rattle.hb_tidy.specs.Finding.{IsTidy}
use Rattle.hb_tidy.specs.Tidying.{file_now}
use Rattle.hb_tidy.specs.Working.{Comes, Event, Steps, WorksOff, operations_in, steps_in}

-- It gets higher by the growths, and has as many more pages in use as growths and splits made, less those that merges freed.
abbrev pub FilesGrowByOperations : Type 0
FilesGrowByOperations = (m new : Machine) (events : List Event) → WorksOff events m new → GrewBy m.store.meta new.store.meta (operations_in events)

-- A machine that has a tidy file, over a disk that tells, and nothing to work off: no worker has a job in hand, and none waits. No page is
-- pinned.
pub record HasTidyFile (s : FileState) (m : Machine) : Type 0 where
  pub poster : m.activity POSTER ≡ at.PosterIdle
  pub consolidator : m.activity CONSOLIDATOR ≡ at.ConsolidatorIdle
  pub flusher : m.activity FLUSHER ≡ at.Flusher
  pub jobs : m.jobs ≡ []
  pub file : file_now m ≡ Some s
  pub tidy : IsTidy s
  pub pool : IsPool m.uses
  pub unpinned : All (λ (u : Use). u.pins ≡ 0) m.uses

-- a page comes into memory, or a flush makes room for one, which does no operation
abbrev pub IsNoWork : Event → Type 0
IsNoWork (Steps actor outcome op) = (actor ≡ FLUSHER) × (op ≡ None)
IsNoWork (Comes id) = Unit {0}
IsNoWork other = ⊥

-- Nothing else happens to it: no worker takes a step, no operation is done, no job comes to wait, and the file stays. Two flushes make room
-- for all that is looked at, a force and a page that is written to its place.
abbrev pub TidyFilesAreLeftAlone : Type 0
TidyFilesAreLeftAlone = (m new : Machine) (s : FileState) (events : List Event) → HasTidyFile s m → WorksOff events m new → All IsNoWork events × (steps_in events ≤ 2) × HasTidyFile s new
