-- Which actor has which box locked, and whose lock keeps an idle session from its next line. No machine stores a lock: it follows
-- from where its actor stands.
use Rattle.std.specs.Prelude.{◌≡◌, ◌≢◌, ℕ, ◌<◌, IsTrue, Some, IsSomeAnd}
use Rattle.hb_space.specs.Boxes.{Meets}
use Rattle.hb_boxlock.specs.Locking.{Excludes}
use Rattle.hb_boxlock.specs.declared.locks.BoxLock.{BoxLock}
use Rattle.hb_activity.specs.declared.activities.Activity.TheVariants.{SessionIdle}
use Rattle.hb_activity.specs.BoxLocks.{lock_of, lock_of_command}
use Rattle.hb_steps.specs.Machines.{Machine}
use Rattle.hb_point.specs.SessionRows.{next_line}

-- the other actor keeps the actor from the lock
pub record LocksOut (m : Machine) (actor : ℕ) (lock : BoxLock) (other : ℕ) : Type 0 where
  pub another : other ≢ actor
  pub excluded : IsSomeAnd (lock_of (m.activity other)) (Excludes lock)

-- it is the least one that does
pub record IsBoxInTheWay (m : Machine) (actor : ℕ) (lock : BoxLock) (by : ℕ) : Type 0 where
  pub keeps : LocksOut m actor lock by
  pub least : (earlier : ℕ) → earlier < by → ¬ (LocksOut m actor lock earlier)

-- the actor may have the lock: nobody keeps it from that
abbrev pub HasBoxFree : Machine → ℕ → BoxLock → Type 0
HasBoxFree m actor lock = (other : ℕ) → ¬ (LocksOut m actor lock other)

-- an idle session waits for the box of its next line, which this other one has
pub record AwaitsBox (m : Machine) (actor other : ℕ) : Type 0 where
  pub idle : m.activity actor ≡ SessionIdle
  pub locked : IsSomeAnd (next_line actor m.answered m.lines) (λ line. LocksOut m actor (lock_of_command line.command) other)

-- locks of different actors whose boxes meet are shared
abbrev pub BoxLocksFit : Machine → Type 0
BoxLocksFit m = (actor other : ℕ) (lock held : BoxLock) → actor ≢ other → lock_of (m.activity actor) ≡ Some lock → lock_of (m.activity other) ≡ Some held →
    Meets lock.area held.area → IsTrue lock.shared × IsTrue held.shared
