-- A disk in memory, as its own contracts see it.
use Rattle.std.specs.Prelude.{◌≡◌, ◌⊎◌, ◌↔◌, ℕ, ◌<◌, ◌≤◌, List, [], ◌∷◌, length, reverse, Contains, Result, IsErr, OnOk, OnErr}
use Rattle.hb_outside.specs.Memory.{next_count}
use Rattle.hb_disk.specs.Model.{DiskModel, overwritten, last_value}
use Rattle.hb_disk.specs.Events.{disk_after}
use Rattle.hb_disk.specs.NotedCalls.{IsNoted}
use Rattle.hb_disk.specs.declared.event.Change.{Change}
use Rattle.hb_disk.specs.declared.event.Event.{Event}
use Rattle.hb_disk.specs.declared.mem_disk.MemDisk.{MemDisk}

-- the bytes as they read now
abbrev pub bytes_of : MemDisk → List ℕ
bytes_of d = d.history.bytes.items

-- what changed them, the newest first
abbrev pub events_of : MemDisk → List Event
events_of d = reverse d.history.events.items

-- the disk that it is
abbrev pub mem_disk_seen : MemDisk → DiskModel
mem_disk_seen d = disk_after (bytes_of d) (events_of d) d.history.clock d.read_faults d.write_faults

-- the next call is one of those that fail
abbrev pub IsListed : MemDisk → Type 0
IsListed d = Contains d.failing.items d.calls

-- A disk that was never called, of these bytes, and that fails at these calls.
pub record StartsWith (bytes failing : List ℕ) (d : MemDisk) : Type 0 where
  pub holds : bytes_of d ≡ bytes
  pub nothing : d.history.events.items ≡ []
  pub clock : d.history.clock ≡ 0
  pub listed : d.failing.items ≡ failing
  pub calls : d.calls ≡ 0
  pub read_faults : d.read_faults ≡ 0
  pub write_faults : d.write_faults ≡ 0
  pub starved : d.starved ≡ 0

-- A read fails exactly at a listed call. It changes nothing but the counts.
pub record ReadExactly {T E : Type 0} (result : Result T E) (old new : MemDisk) : Type 0 where
  pub fails : IsErr result ↔ IsListed old
  pub calls : new.calls ≡ next_count old.calls
  pub fault : OnErr result (new.read_faults ≡ next_count old.read_faults)
  pub no_fault : OnOk result (new.read_faults ≡ old.read_faults)
  pub rest : new ≡ record old { calls = new.calls; read_faults = new.read_faults }

-- the record of calls is the same; or has one event more: a write over a range, a try at it, or a sync
abbrev pub HasSameRecord : MemDisk → MemDisk → Type 0
HasSameRecord old new = new.history.events.items ≡ old.history.events.items

abbrev pub Records : (Change → Type 0) → MemDisk → MemDisk → Type 0
Records P old new = IsNoted P old.calls old.history new.history

-- Why a write, zero or sync failed, and what it left on record: a listed call that it was tried; one that came at the
-- clock's last value, or found no memory, nothing. The last is counted.
abbrev pub FailsFor : Type 0 → MemDisk → MemDisk → Type 0
FailsFor Tried old new =
    (IsListed old × (old.history.clock < last_value) × Tried × (new.starved ≡ old.starved))
    ⊎ (((old.history.clock ≡ last_value) × HasSameRecord old new × (new.starved ≡ old.starved))
    ⊎ ((old.history.clock < last_value) × HasSameRecord old new × (new.starved ≡ next_count old.starved)))

-- A write, zero or sync fails at a listed call, where the clock is at its last value, and else only for want of memory.
-- The bytes of a call that failed are as they were. `Tried` is what a listed call leaves on record.
pub record CalledExactly {T E : Type 0} (Tried : Type 0) (result : Result T E) (old new : MemDisk) : Type 0 where
  pub listed : IsListed old → IsErr result
  pub ended : old.history.clock ≡ last_value → IsErr result
  pub blame : OnErr result (FailsFor Tried old new)
  pub unchanged : OnErr result (bytes_of new ≡ bytes_of old)
  pub calls : new.calls ≡ next_count old.calls
  pub failing : new.failing ≡ old.failing
  pub fault : OnErr result (new.write_faults ≡ next_count old.write_faults)
  pub no_fault : OnOk result ((new.write_faults ≡ old.write_faults) × (new.starved ≡ old.starved))
  pub read_faults : new.read_faults ≡ old.read_faults

-- A disk in which one byte is set at its time: where the next call is that one, and the place lies in the disk.
-- All else is as it was, the record of its calls too.
pub record SetsByte (before at byte : ℕ) (old new : MemDisk) : Type 0 where
  pub set : old.calls ≡ before → at < length (bytes_of old) → bytes_of new ≡ overwritten (bytes_of old) at (byte ∷ [])
  pub not_yet : (old.calls ≡ before → ⊥) → bytes_of new ≡ bytes_of old
  pub outside : length (bytes_of old) ≤ at → bytes_of new ≡ bytes_of old
  pub size : length (bytes_of new) ≡ length (bytes_of old)
  pub record_kept : HasSameRecord old new
  pub clock : new.history.clock ≡ old.history.clock
  pub rest : new ≡ record old { history = new.history }
