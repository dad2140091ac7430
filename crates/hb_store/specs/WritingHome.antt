-- What it is to write the least recently used dirty page to its place, where no group waits.
use Rattle.std.specs.Prelude.{◌≡◌, ◌≢◌, ◌⊎◌, ◌<◌, ℕ, [], Some, None, IsOk, MatchOption, Result}
use Rattle.hb_disk.specs.Model.{DiskModel, Torn}
use Rattle.hb_layout.specs.Offsets.{page_offset}
use Rattle.hb_space.specs.declared.form.TheConstants.{PAGE}
use Rattle.hb_store.specs.Fetching.{LooksUp}
use Rattle.hb_store.specs.Held.{StoreHeld, cleaned_held, oldest_dirty}
use Rattle.hb_store.specs.Switching.{KeepsFile, SwitchesTurn}
use Rattle.hb_store.specs.declared.stops.Flushed.{Flushed}
use Rattle.hb_store.specs.declared.stops.Flushed.TheVariants.{Forced, Written, Switched, Nothing}
use Rattle.hb_store.specs.declared.stops.WriteFault.{WriteFault}

-- The page of this number is written to its place, by its result: once it is written it is clean. Only that place changes, in one call.
abbrev pub WritesHome : Result (Unit {0}) WriteFault → ℕ → DiskModel → DiskModel → StoreHeld → StoreHeld → Type 0
WritesHome result id d e old new = KeepsFile result (cleaned_held id old) (Torn (page_offset old.state.meta id) PAGE) 1 d e old new

-- What a flush is to do where no group waits, by its result: the least recently used dirty page; where none is dirty the next turn
-- begins if the log has a frame, and else nothing is to be done.
abbrev pub FlushesClean : Result (Unit {0}) WriteFault → DiskModel → DiskModel → StoreHeld → StoreHeld → Type 0
FlushesClean result d e old new = ((0 < old.state.log.written) × SwitchesTurn result d e old new) ⊎ ((old.state.log.written ≡ 0) × IsOk result × LooksUp ⊥ d e old.state new.state × (new ≡ old))

abbrev pub FlushesHome : Result (Unit {0}) WriteFault → DiskModel → DiskModel → StoreHeld → StoreHeld → Type 0
FlushesHome result d e old new = MatchOption (oldest_dirty old.uses) (FlushesClean result d e old new) (λ id. WritesHome result id d e old new)

-- which of the four a flush does
abbrev pub IsDue : StoreHeld → Flushed → Type 0
IsDue held Forced = held.state.log.groups ≢ []
IsDue held (Written id) = (held.state.log.groups ≡ []) × (oldest_dirty held.uses ≡ Some id)
IsDue held Switched = (held.state.log.groups ≡ []) × (oldest_dirty held.uses ≡ None) × (0 < held.state.log.written)
IsDue held Nothing = (held.state.log.groups ≡ []) × (oldest_dirty held.uses ≡ None) × (held.state.log.written ≡ 0)
