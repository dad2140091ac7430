-- What a call of a disk in memory leaves on record, why it was refused, and what it counts.
use Rattle.std.specs.Prelude.{Bool, true, ◌≡◌, ℕ, ◌<◌, List, [], ◌∷◌, ◌++◌, take, drop, Vec, Result, IsErr, IfErr, OnOk, OnErr}
use Rattle.std.specs.declared.alloc.Global.{Global}
use Rattle.hb_outside.specs.Memory.{next_count}
use Rattle.hb_disk.specs.Model.{last_value}
use Rattle.hb_disk.specs.declared.event.Change.{Change}
use Rattle.hb_disk.specs.declared.event.Change.TheVariants.{Wrote}
use Rattle.hb_disk.specs.declared.event.Event.{Event}
use Rattle.hb_disk.specs.declared.history.History.{History}
use Rattle.hb_disk.specs.declared.event.Refused.{Refused}
use Rattle.hb_disk.specs.declared.event.Refused.TheVariants.{Listed, Over, NoMemory}

-- One event more stands on record, of a change that is this one. The clock wasn't at its last value.
pub record Notes (P : Change → Type 0) (clock call : ℕ) (old new : List Event) : Type 0 where
  pub event : Event
  pub added : new ≡ old ++ event ∷ []
  pub at_clock : event.clock ≡ clock
  pub at_call : event.call ≡ call
  pub change : P event.change
  pub time_left : clock < last_value

-- the same of a history, at the call of this number
abbrev pub IsNoted : (Change → Type 0) → ℕ → History → History → Type 0
IsNoted P call old new = Notes P old.clock call old.events.items new.events.items

-- the change is a write over these bytes, of so many from a place on
abbrev pub IsOver : ℕ → ℕ → List ℕ → Change → Type 0
IsOver at len bytes change = (before : Vec ℕ Global) × (change ≡ Wrote at before) × (before.items ≡ take len (drop at bytes))

-- Why a call was refused, and what it leaves on record: the clock was at its last value, or memory was wanting, and the record
-- is the same; or it is a listed one, which leaves its mark.
abbrev pub Refuses : Type 0 → Type 0 → Bool → ℕ → Refused → Type 0
Refuses OnRecord Same listed clock Listed = (listed ≡ true) × (clock < last_value) × OnRecord
Refuses OnRecord Same listed clock Over = (clock ≡ last_value) × Same
Refuses OnRecord Same listed clock NoMemory = (clock < last_value) × Same

-- A call of a history passed. Done, it stands on record, and the bytes are these. Refused, there is a cause, and the bytes are
-- as they were; `OnRecord` is what a listed call leaves on record. The clock goes on.
pub record Passes (done : Change → Type 0) (OnRecord : Type 0) (bytes : List ℕ) (call : ℕ) (listed : Bool) (result : Result (Unit {0}) Refused) (old new : History) : Type 0 where
  pub noted : OnOk result (IsNoted done call old new)
  pub made : OnOk result (new.bytes.items ≡ bytes)
  pub same : OnErr result (new.bytes.items ≡ old.bytes.items)
  pub why : IfErr result (Refuses OnRecord (new.events.items ≡ old.events.items) listed old.clock)
  pub fails : listed ≡ true → IsErr result
  pub clock : new.clock ≡ next_count old.clock

-- the count of calls that found no memory, after one that was refused
abbrev pub starved_after : Refused → ℕ → ℕ
starved_after Listed count = count
starved_after Over count = count
starved_after NoMemory count = next_count count
