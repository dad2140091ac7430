-- What contracts see of locks on boxes.
use Rattle.std.specs.Prelude.{◌≡◌, ◌≢◌, ℕ, ◌<◌, Bool, ◌&&◌, not, length, Option, Some, IsTrue, IfSome, IsSomeAnd}
use Rattle.std.specs.FinMap as map
use Rattle.std.specs.Ordering.{nat_cmp}
use Rattle.hb_space.specs.Boxes.{Area, Meets}
use Rattle.hb_boxlock.specs.declared.locks.BoxLock.{BoxLock}

abbrev pub lock_on : Area → Bool → BoxLock
lock_on area share = record { area = area; shared = share }

-- one lock excludes another: their boxes meet, and one of the two isn't shared
pub record Excludes (lock held : BoxLock) : Type 0 where
  pub meets : Meets lock.area held.area
  pub alone : IsTrue (not (lock.shared && held.shared))

-- a table: which lock an actor has
abbrev pub LockTable : Type 0
LockTable = map.FinMap nat_cmp BoxLock

abbrev pub lock_at : LockTable → ℕ → Option BoxLock
lock_at table actor = map.get table actor

-- each box that is locked has so many attributes
abbrev pub HaveAttributes : LockTable → ℕ → Type 0
HaveAttributes table k = (other : ℕ) → IfSome (lock_at table other) (λ held. length held.area.lo ≡ k)

-- the other actor keeps the actor from the lock
pub record KeepsFromLock (table : LockTable) (actor : ℕ) (lock : BoxLock) (other : ℕ) : Type 0 where
  pub another : other ≢ actor
  pub excluded : IsSomeAnd (lock_at table other) (λ held. Excludes lock held)

-- it is the least one that does
pub record IsLeastToKeep (table : LockTable) (actor : ℕ) (lock : BoxLock) (other : ℕ) : Type 0 where
  pub keeps : KeepsFromLock table actor lock other
  pub least : (earlier : ℕ) → earlier < other → ¬ (KeepsFromLock table actor lock earlier)

-- the actor may have the lock: nobody keeps it from that
abbrev pub MayHaveLock : LockTable → ℕ → BoxLock → Type 0
MayHaveLock table actor lock = (other : ℕ) → ¬ (KeepsFromLock table actor lock other)

-- locks of two actors that meet are shared
abbrev pub AreSharedWhereTheyMeet : LockTable → Type 0
AreSharedWhereTheyMeet table = (actor other : ℕ) (lock held : BoxLock) → actor ≢ other → lock_at table actor ≡ Some lock → lock_at table other ≡ Some held →
    Meets lock.area held.area → IsTrue lock.shared × IsTrue held.shared
