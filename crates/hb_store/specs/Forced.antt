-- What a store and its files are once the groups that wait were written to the log, and what it is to write them.
use Rattle.std.specs.Prelude.{◌≡◌, ◌+◌, false, true, List, [], IsOk, IsSome, OnErr, OnOk, Result}
use Rattle.std.specs.Result.{result_map_both}
use Rattle.hb_disk.specs.Model.{DiskModel, Stays, Torn}
use Rattle.hb_disk.specs.Calls.{Leaves}
use Rattle.hb_disk.specs.Runs.{Rewrites}
use Rattle.hb_wal.specs.Forces.{calls_of_force}
use Rattle.hb_wal.specs.Log.{LogState, after_force}
use Rattle.hb_ops.specs.Files.{FileState, last_of}
use Rattle.hb_store.specs.Keeps.{OpensToEither, StoreKeeps}
use Rattle.hb_store.specs.States.{StoreState}
use Rattle.hb_store.specs.declared.stops.WriteFault.{WriteFault}

-- a store after a force: no group waits any more
abbrev pub with_log : LogState → StoreState → StoreState
with_log log st = record st { log = log }

abbrev pub forced_state : StoreState → StoreState
forced_state st = with_log (after_force st.log) st

-- a store that a fault has stopped
abbrev pub stopped_state : StoreState → StoreState
stopped_state st = record st { stopped = true }

-- A store that may write its groups: it was not stopped, and over a disk that tells it keeps some files.
pub record MayWriteGroups (d : DiskModel) (st : StoreState) : Type 0 where
  pub running : st.stopped ≡ false
  pub kept : IsSome d.told → (durable : FileState) × (later : List FileState) × StoreKeeps d st durable later

-- a call that writes, whatever it gives once it is done
abbrev pub done : {T : Type 0} → Result T WriteFault → Result (Unit {0}) WriteFault
done result = result_map_both (λ value. tt) (λ fault. fault) result

-- What it is to write the groups that wait to the log, by its result.
pub record WritesGroups (result : Result (Unit {0}) WriteFault) (d e : DiskModel) (old new : StoreState) : Type 0 where
  -- where none waits it is done, and the disk stays
  pub nothing : old.log.groups ≡ [] → IsOk result × Stays d e
  -- once they are written none waits
  pub forced : OnOk result (new ≡ forced_state old)
  -- a fault stops the store
  pub stopped : OnErr result (new ≡ stopped_state old)
  -- the file after the last one is durable then
  pub keeps_forced : (durable : FileState) (later : List FileState) → StoreKeeps d old durable later → OnOk result (StoreKeeps e new (last_of durable later) [])
  -- and after a fault the one before the first is
  pub keeps_stopped : (durable : FileState) (later : List FileState) → StoreKeeps d old durable later → OnErr result (StoreKeeps e new durable later)
  -- a crash inside leaves the one or the other
  pub moments : (durable : FileState) (later : List FileState) → StoreKeeps d old durable later → Leaves d e (OpensToEither durable later)
  -- only the log area changes, in four calls at most, and a fault is the disk's
  pub wrote : Rewrites (Torn old.log.area old.log.len) 4 result d e
  -- four calls, and none where no group waits
  pub clock : IsSome d.told → OnOk result (e.clock ≡ d.clock + calls_of_force old.log.groups)
