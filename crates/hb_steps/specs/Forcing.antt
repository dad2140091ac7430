-- What flushing makes of a machine: a force, a page that is written to its place, or the log's next turn.
use Rattle.std.specs.Prelude.{◌≡◌, ◌≢◌, ◌⊎◌, ℕ, ◌+◌, ◌<◌, ◌≤◌, [], None, Some, option_map}
use Rattle.hb_store.specs.declared.stops.StopWhy.TheVariants.{WriteFault}
use Rattle.hb_steps.specs.declared.outcomes.Outcome.{Outcome}
use Rattle.hb_steps.specs.declared.outcomes.Outcome.TheVariants as outcomes
use Rattle.hb_steps.specs.Machines.{Files, Machine, stopped_for, with_disk, with_uses}
use Rattle.hb_pool.specs.Frames.{clean}
use Rattle.hb_pool.specs.Pools.{in_place}
use Rattle.hb_store.specs.Held.{cleaned_state, oldest_dirty}
use Rattle.hb_store.specs.Forced.{forced_state, stopped_state}
use Rattle.hb_ops.specs.Files.{last_of}
use Rattle.hb_store.specs.Switching.{switched_state}
use Rattle.hb_wal.specs.Forces.{calls_of_force}

-- A device call failed: the machine is stopped, behind so many calls at most.
pub record FailsToWrite (m : Machine) (most : ℕ) (outcome : Outcome) (new : Machine) : Type 0 where
  pub clock : ℕ
  pub from : m.clock ≤ clock
  pub few : clock ≤ m.clock + most
  pub says : outcome ≡ outcomes.Stopped WriteFault
  pub stops : new ≡ stopped_for WriteFault (with_disk (stopped_state m.store) m.files clock m)

-- A force: the file after all groups that wait is durable, or the write failed. Where a group waited, a force that is done takes four
-- device calls; where none did, it takes none.
abbrev pub forced_files : Files → Files
forced_files files = record { durable = last_of files.durable files.later; later = [] }

abbrev pub ForcesAll : Machine → Outcome → Outcome → Machine → Type 0
ForcesAll m done outcome new =
    ((outcome ≡ done) × (new ≡ with_disk (forced_state m.store) (option_map forced_files m.files) (m.clock + calls_of_force m.store.log.groups) m))
    ⊎ ((m.store.log.groups ≢ []) × FailsToWrite m 4 outcome new)

-- nothing happens
abbrev pub StaysSo : Machine → Outcome → Outcome → Machine → Type 0
StaysSo m said outcome new = (outcome ≡ said) × (new ≡ m)

-- what a step says that flushed, unless that failed
abbrev pub SaysItFlushed : Outcome → Type 0
SaysItFlushed said = (said ≡ outcomes.Moved) ⊎ (said ≡ outcomes.Helped)

-- The least recently used dirty page is written to its place, in one call. The file stays.
pub record WritesOldest (m : Machine) (page : ℕ) (due outcome : Outcome) (new : Machine) : Type 0 where
  pub says : outcome ≡ due
  pub leaves : new ≡ with_uses (in_place page clean m.uses) (with_disk (cleaned_state page m.store) m.files (m.clock + 1) m)

-- The next turn begins, in nine calls: the log has no frame then. The file stays.
pub record BeginsTurn (m : Machine) (due outcome : Outcome) (new : Machine) : Type 0 where
  pub says : outcome ≡ due
  pub leaves : new ≡ with_disk (switched_state m.store) m.files (m.clock + 9) m

-- What is left to flush once no group waits: a page in memory that is to be written to its place; and where there is none, the frames
-- of the log, which is begun again.
abbrev pub HasDirtyPage : Machine → ℕ → Type 0
HasDirtyPage m page = oldest_dirty m.uses ≡ Some page

abbrev pub HasOldTurn : Machine → Type 0
HasOldTurn m = (oldest_dirty m.uses ≡ None) × (0 < m.store.log.written)

abbrev pub IsFlushed : Machine → Type 0
IsFlushed m = (oldest_dirty m.uses ≡ None) × (m.store.log.written ≡ 0)

-- What flushing comes to then: that is done, or fails; or nothing was to be done, and this happens.
abbrev pub FlushesRest : Machine → Outcome → Type 0 → Outcome → Machine → Type 0
FlushesRest m due nothing outcome new =
    ((page : ℕ) × HasDirtyPage m page × (WritesOldest m page due outcome new ⊎ FailsToWrite m 1 outcome new))
    ⊎ (HasOldTurn m × (BeginsTurn m due outcome new ⊎ FailsToWrite m 9 outcome new))
    ⊎ (IsFlushed m × nothing)

-- A step flushes once, and says what is due then: the groups that wait are forced; where none does, the rest is flushed.
abbrev pub FlushesOnce : Machine → Outcome → Type 0 → Outcome → Machine → Type 0
FlushesOnce m due nothing outcome new = ((m.store.log.groups ≢ []) × ForcesAll m due outcome new) ⊎ ((m.store.log.groups ≡ []) × FlushesRest m due nothing outcome new)

-- A step of the flusher.
abbrev pub Flushes : Machine → Outcome → Machine → Type 0
Flushes m outcome new = FlushesOnce m outcomes.Moved (StaysSo m outcomes.Idle outcome new) outcome new
