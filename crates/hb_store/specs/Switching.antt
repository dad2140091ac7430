-- What it is to begin the next turn, where no group waits and no page is dirty; first what any writing comes to that leaves the file as it is.
use Rattle.std.specs.Prelude.{◌≡◌, ◌+◌, ℕ, List, [], IsSome, OnErr, OnOk, Result}
use Rattle.std.specs.FinSet as set
use Rattle.hb_disk.specs.Model.{DiskModel, Torn}
use Rattle.hb_disk.specs.Calls.{Leaves}
use Rattle.hb_disk.specs.Runs.{Rewrites}
use Rattle.hb_layout.specs.Offsets.{log_start, slot_offset}
use Rattle.hb_layout.specs.declared.meta.Meta.{Meta}
use Rattle.hb_ops.specs.Files.{FileState}
use Rattle.hb_super.specs.Superblocks.{next_turn}
use Rattle.hb_store.specs.Forced.{stopped_state}
use Rattle.hb_store.specs.Held.{StoreHeld}
use Rattle.hb_store.specs.Keeps.{StoreKeeps}
use Rattle.hb_store.specs.Opening.{OpensTo}
use Rattle.hb_store.specs.States.{StoreState}
use Rattle.hb_store.specs.declared.stops.WriteFault.{WriteFault}

-- a store whose next turn has begun: its log is the other area, without a frame, and no page is in it
abbrev pub switched_state : StoreState → StoreState
switched_state st = record st {
  turn = next_turn st.turn;
  log = record { area = log_start (next_turn st.turn) st.meta; len = st.log.len; written = 0; groups = [] };
  in_log = set.empty;
}

-- Other bytes may stand in the log area of the next turn and in the place of its superblock, and nowhere else.
pub record TornSwitch (turn : ℕ) (meta : Meta) (before after : List ℕ) : Type 0 where
  pub between : List ℕ
  pub area : Torn (log_start (next_turn turn) meta) meta.log before between
  pub place : Torn (slot_offset (next_turn turn)) 41 between after

-- What writing comes to that leaves the file as it is, by its result: `next` is the store once it is done, `change` says which bytes may
-- become other ones, and `calls` in how many calls.
pub record KeepsFile (result : Result (Unit {0}) WriteFault) (next : StoreHeld) (change : List ℕ → List ℕ → Type 0) (calls : ℕ) (d e : DiskModel) (old new : StoreHeld) : Type 0 where
  pub done : OnOk result (new ≡ next)
  -- a fault stops the store
  pub stopped : OnErr result ((new.state ≡ stopped_state old.state) × (new.uses ≡ old.uses))
  -- the file stays, also after a fault
  pub keeps : (durable : FileState) (later : List FileState) → StoreKeeps d old.state durable later → StoreKeeps e new.state durable later
  -- whatever a crash inside leaves opens to it
  pub moments : (durable : FileState) (later : List FileState) → StoreKeeps d old.state durable later → Leaves d e (λ c. OpensTo c durable)
  -- no other bytes change, in so many calls at most, and a fault is the disk's
  pub wrote : Rewrites change calls result d e
  -- so many calls, where it is done
  pub clock : IsSome d.told → OnOk result (e.clock ≡ d.clock + calls)

-- The next turn begins, by its result: once it has begun the pages in memory and their order stay. Only the other log area and the
-- other superblock's place change, in nine calls at most.
abbrev pub SwitchesTurn : Result (Unit {0}) WriteFault → DiskModel → DiskModel → StoreHeld → StoreHeld → Type 0
SwitchesTurn result d e old new = KeepsFile result (record { state = switched_state old.state; uses = old.uses }) (TornSwitch old.state.turn old.state.meta) 9 d e old new
