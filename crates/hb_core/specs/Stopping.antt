-- What a page that isn't fetched makes of a step.
use Rattle.std.specs.Prelude.{◌≡◌}
use Rattle.hb_activity.specs.declared.dropping.DropWhy.TheVariants as drops
use Rattle.hb_store.specs.declared.stops.FetchStop.{FetchStop}
use Rattle.hb_store.specs.declared.stops.FetchStop.TheVariants as fetches
use Rattle.hb_store.specs.declared.stops.StopWhy.TheVariants as stops
use Rattle.hb_core.specs.declared.halts.Halt.{Halt}
use Rattle.hb_core.specs.declared.halts.Halt.TheVariants.{GivesUp, Stops}

-- A step for whose page there is no place is none that is done: it is made ready first.
abbrev pub IsHaltOf : FetchStop → Halt → Type 0
IsHaltOf (fetches.Damaged page why) halt = halt ≡ Stops (stops.Damaged page why)
IsHaltOf fetches.ReadFault halt = halt ≡ GivesUp drops.ReadFault
IsHaltOf fetches.Crowded halt = ⊥
