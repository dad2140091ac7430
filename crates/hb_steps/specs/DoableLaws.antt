-- That what a row does can be done, as laws.
use Rattle.std.specs.Prelude.{◌≡◌, ℕ, Some}
use Rattle.hb_ops.specs.declared.operations.Op.{Op}
use Rattle.hb_activity.specs.Deeds.{Deed}
use Rattle.hb_steps.specs.AllowedLaws.{AnyPage, HalfHasRoom, NamesItsPages}
use Rattle.hb_steps.specs.Asking.{wanted_by}
use Rattle.hb_steps.specs.Fetching.{Brings}
use Rattle.hb_steps.specs.Keeps.{HoldsPagesOfFile, KnowsRoom, LatchesFit}
use Rattle.hb_steps.specs.KeptLines.{MetaWithinLimits}
use Rattle.hb_steps.specs.Machines.{Machine, with_disk}
use Rattle.hb_steps.specs.Rows.{Row}
use Rattle.hb_space.specs.Actors.{IsActor}
use Rattle.hb_store.specs.Calls.{IsAllowedHere}
use Rattle.hb_store.specs.States.{StoreState}

-- A session puts its record into the half of a split that has room: the one half that directly holds the point.
abbrev pub PutsFindRoom : Type 0
PutsFindRoom = (m : Machine) (actor : ℕ) (fetched : StoreState) (deed : Deed) (op : Op) → IsActor actor → LatchesFit m → KnowsRoom m → Brings m AnyPage fetched →
    Row (m.activity actor) (wanted_by m actor) (with_disk fetched m.files m.clock m) deed → deed.op ≡ Some op → HalfHasRoom m actor op

-- So where a row has an operation, that is allowed, over every disk.
abbrev pub RowsCanBeDone : Type 0
RowsCanBeDone = (m : Machine) (actor : ℕ) (fetched : StoreState) (deed : Deed) (op : Op) → IsActor actor → LatchesFit m → MetaWithinLimits m → HoldsPagesOfFile m → KnowsRoom m → NamesItsPages m op → Brings m AnyPage fetched →
    Row (m.activity actor) (wanted_by m actor) (with_disk fetched m.files m.clock m) deed → deed.op ≡ Some op → IsAllowedHere fetched op
