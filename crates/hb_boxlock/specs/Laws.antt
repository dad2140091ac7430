-- What follows of locks from their definitions alone.
use Rattle.std.specs.Prelude.{◌≡◌, ◌≢◌, ℕ, ◌==◌, length, true, false, if◌then◌else◌, Some, None}
use Rattle.std.specs.FinMap as map
use Rattle.hb_space.specs.Boxes.{Disjoint}
use Rattle.hb_boxlock.specs.declared.locks.BoxLock.{BoxLock}
use Rattle.hb_boxlock.specs.Locking.{AreSharedWhereTheyMeet, HaveAttributes, KeepsFromLock, LockTable, MayHaveLock, lock_at}

-- What is taken changes one actor's lock, and so does what is released.
abbrev pub TakesOneLock : Type 0
TakesOneLock = (table : LockTable) (actor other : ℕ) (lock : BoxLock) →
    lock_at (map.insert table actor lock) other ≡ (if other == actor then Some lock else lock_at table other)

abbrev pub ReleasesOneLock : Type 0
ReleasesOneLock = (table : LockTable) (actor other : ℕ) →
    lock_at (map.remove table actor) other ≡ (if other == actor then None else lock_at table other)

-- Where locks that meet are shared, they are after each call, too.
abbrev pub TakingKeepsThemShared : Type 0
TakingKeepsThemShared = (table : LockTable) (actor : ℕ) (lock : BoxLock) → AreSharedWhereTheyMeet table → HaveAttributes table (length lock.area.lo) →
    MayHaveLock table actor lock → AreSharedWhereTheyMeet (map.insert table actor lock)

abbrev pub ReleasingKeepsThemShared : Type 0
ReleasingKeepsThemShared = (table : LockTable) (actor : ℕ) → AreSharedWhereTheyMeet table → AreSharedWhereTheyMeet (map.remove table actor)

-- What an actor had and gave back it may have again.
abbrev pub ReleasedMayBeHad : Type 0
ReleasedMayBeHad = (table : LockTable) (actor : ℕ) (lock : BoxLock) → AreSharedWhereTheyMeet table → lock_at table actor ≡ Some lock →
    MayHaveLock (map.remove table actor) actor lock

-- Who keeps an actor from a shared lock has one for itself alone.
abbrev pub SharedKeepsNone : Type 0
SharedKeepsNone = (table : LockTable) (actor other : ℕ) (lock held : BoxLock) → lock.shared ≡ true → lock_at table other ≡ Some held →
    KeepsFromLock table actor lock other → held.shared ≡ false

-- A box that an actor has for itself alone has no point in common with another's.
abbrev pub AloneHasItsPoints : Type 0
AloneHasItsPoints = (table : LockTable) (actor other : ℕ) (lock held : BoxLock) → AreSharedWhereTheyMeet table → actor ≢ other →
    lock_at table actor ≡ Some lock → lock_at table other ≡ Some held → lock.shared ≡ false → Disjoint lock.area held.area

-- Where each locked box has so many attributes, each has so many after each call, too.
abbrev pub TakingKeepsAttributes : Type 0
TakingKeepsAttributes = (table : LockTable) (actor : ℕ) (lock : BoxLock) (k : ℕ) → HaveAttributes table k → length lock.area.lo ≡ k →
    HaveAttributes (map.insert table actor lock) k

abbrev pub ReleasingKeepsAttributes : Type 0
ReleasingKeepsAttributes = (table : LockTable) (actor k : ℕ) → HaveAttributes table k → HaveAttributes (map.remove table actor) k
