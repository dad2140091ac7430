-- What every machine keeps, over any disk, of its log and of the pages in memory: the log's area, and that there are places.
use Rattle.std.specs.Prelude.{◌≡◌, ℕ, ◌≤◌, [], None}
use Rattle.hb_steps.specs.Forcing.{IsFlushed}
use Rattle.hb_steps.specs.KeptMachine.{MachineKeeps}
use Rattle.hb_steps.specs.Machines.{Machine}
use Rattle.hb_steps.specs.Steps.{IsUnready}
use Rattle.hb_pool.specs.Pools.{places}
use Rattle.hb_store.specs.Held.{oldest_dirty}

-- Where no page is dirty there are places enough: 128 frames, and 19 actors that hold two pages each at most. So nobody is
-- ever without a place: a step flushes until it has one, and a line is never refused for want of one.
abbrev pub PlacesAreLeft : Type 0
PlacesAreLeft = (m : Machine) → MachineKeeps m → oldest_dirty m.uses ≡ None → 90 ≤ places m.uses

-- And the log has room where it has no frame. So a step that isn't ready has something to flush: by flushing it gets ready, and no
-- line is refused for want of room in the log.
abbrev pub FlushingMakesReady : Type 0
FlushingMakesReady = (m : Machine) (actor : ℕ) → MachineKeeps m → m.store.log.groups ≡ [] → IsFlushed m → ¬ (IsUnready m actor)
