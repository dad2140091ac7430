-- What each call does to a disk, by the disk model.
use Rattle.std.specs.Prelude.{◌≡◌, ◌⊎◌, ◌↔◌, ℕ, ◌+◌, ◌<◌, ◌≤◌, List, ◌∷◌, length, take, drop, get_or, Some, None, IfSome, IsSome, Result, IsErr, OnOk, OnErr}
use Rattle.hb_outside.specs.Calls.{Counts}
use Rattle.hb_disk.specs.Model.{DiskModel, last_value, overwritten, Torn, Elapses, Stays}

-- A write, zero or sync is one tick of the clock, whether it fails or not. Where the clock stands at its last value
-- the call fails and changes nothing.
pub record Ticks {T E : Type 0} (result : Result T E) (old new : DiskModel) : Type 0 where
  pub tick : IsSome old.told → old.clock < last_value → new.clock ≡ old.clock + 1
  pub later : old.clock ≤ new.clock
  pub ended : IsSome old.told → old.clock ≡ last_value → IsErr result × Stays old new
  pub time : Elapses old new
  pub size : new.size ≡ old.size

-- The counts of faults over calls that write: a write, zero or sync failed where they failed so, and no read did.
pub record WriteFaults (failed : Type 0) (old new : DiskModel) : Type 0 where
  pub writes : Counts failed old.write_faults new.write_faults
  pub reads : new.read_faults ≡ old.read_faults

-- A range is open: what a crash might have left before, with any bytes in the range, it may leave now.
abbrev pub LeavesOpen : ℕ → ℕ → DiskModel → DiskModel → Type 0
LeavesOpen at n old new = (b c : List ℕ) → old.Image b → Torn at n b c → new.Image c

-- Writing a piece at a place. A crash leaves what it might have left before, with any bytes in the range, and each of
-- these, until a sync. Where the call failed, the range may read as any bytes; or the call wasn't done, and the disk reads as
-- before, and a crash leaves what it might have left before.
pub record Writes {T E : Type 0} (at : ℕ) (piece : List ℕ) (result : Result T E) (old new : DiskModel) : Type 0 where
  pub written : OnOk result (IfSome old.told (λ b. new.told ≡ Some (overwritten b at piece)))
  pub tried : OnErr result (IfSome old.told (λ b. (c : List ℕ) × (new.told ≡ Some c) × Torn at (length piece) b c))
  pub silent : old.told ≡ None → new.told ≡ None
  pub crash : (c : List ℕ) → new.Image c → (b : List ℕ) × old.Image b × Torn at (length piece) b c
  pub opened : OnOk result (LeavesOpen at (length piece) old new)
  pub opened_or_not : OnErr result (LeavesOpen at (length piece) old new ⊎ ((new.told ≡ old.told) × ((c : List ℕ) → new.Image c ↔ old.Image c)))
  pub ticks : Ticks result old new
  pub faults : WriteFaults (IsErr result) old new

-- A sync. After it a crash leaves what a read gives, and nothing else. One that fails closes no range.
pub record Syncs {T E : Type 0} (result : Result T E) (old new : DiskModel) : Type 0 where
  pub same : new.told ≡ old.told
  pub durable : OnOk result (IfSome old.told (λ b. (c : List ℕ) → new.Image c → c ≡ b))
  pub crash : (c : List ℕ) → new.Image c → old.Image c
  pub left_open : OnErr result ((c : List ℕ) → old.Image c → new.Image c)
  pub ticks : Ticks result old new
  pub faults : WriteFaults (IsErr result) old new

-- What calls that only read did: the disk is as it was, but for its count of reads that failed.
pub record ReadsOnly (failed : Type 0) (old new : DiskModel) : Type 0 where
  pub stays : Stays old new
  pub reads : Counts failed old.read_faults new.read_faults
  pub writes : new.write_faults ≡ old.write_faults

-- A read gives the told bytes of the range.
pub record ReadsAt {T E : Type 0} (at : ℕ) (into : List ℕ) (result : Result T E) (old new : DiskModel) : Type 0 where
  pub bytes : OnOk result (IfSome old.told (λ b. into ≡ take (length into) (drop at b)))
  pub only : ReadsOnly (IsErr result) old new

-- Reads leave the disk as it was, and no count falls. Nothing is said of which failed.
pub record OnlyReads (old new : DiskModel) : Type 0 where
  pub stays : Stays old new
  pub later : old.read_faults ≤ new.read_faults
  pub writes : new.write_faults ≡ old.write_faults

-- Every image of a moment since old, up to now, has P. The last field is for a run that began before.
pub record Leaves (old new : DiskModel) (P : List ℕ → Type 0) : Type 0 where
  pub later : old.clock ≤ new.clock
  pub each : (c : List ℕ) → new.ImageSince old.clock c → P c
  pub before : (t : ℕ) (c : List ℕ) → t ≤ old.clock → new.ImageSince t c → old.ImageSince t c ⊎ P c

-- the byte of an open gate; a gate that has any other byte is closed
abbrev pub open_gate : ℕ
open_gate = 165

-- One list of bytes is another with a frame at the place, whole behind its open gate, or with a gate that is closed.
-- Outside the frame's range they are the same.
pub record FrameOrNot (at : ℕ) (body : List ℕ) (before after : List ℕ) : Type 0 where
  pub elsewhere : Torn at (1 + length body) before after
  pub whole : get_or after at 0 ≡ open_gate → after ≡ overwritten before at (open_gate ∷ body)

-- One list of bytes is another after two pieces in order, the second begun only where the first stands: the first
-- range is torn and nothing else, or the first piece stands whole and the second range is torn. A torn range may hold
-- what stood there before, or the piece whole.
abbrev pub InOrder : ℕ → List ℕ → ℕ → List ℕ → List ℕ → List ℕ → Type 0
InOrder first a second b before after = Torn first (length a) before after ⊎ Torn second (length b) (overwritten before first a) after

-- two ranges that share no place
abbrev pub Apart : ℕ → ℕ → ℕ → ℕ → Type 0
Apart at n from m = (at + n ≤ from) ⊎ (from + m ≤ at)

-- In a range a crash now leaves what a read gives, where the disk tells.
pub record IsSynced (d : DiskModel) (at n : ℕ) : Type 0 where
  pub each : (b c : List ℕ) → d.told ≡ Some b → d.Image c → take n (drop at c) ≡ take n (drop at b)

-- What calls made of a disk as a whole: what a read gives, and each image, became by the relation what it is now.
pub record Becomes (R : List ℕ → List ℕ → Type 0) (old new : DiskModel) : Type 0 where
  pub size : new.size ≡ old.size
  pub silent : old.told ≡ None → new.told ≡ None
  pub told : IfSome old.told (λ b. (c : List ℕ) × (new.told ≡ Some c) × R b c)
  pub crash : (c : List ℕ) → new.Image c → (b : List ℕ) × old.Image b × R b c

-- one relation after another
abbrev pub Then : (List ℕ → List ℕ → Type 0) → (List ℕ → List ℕ → Type 0) → List ℕ → List ℕ → Type 0
Then R S before after = (between : List ℕ) × R before between × S between after
