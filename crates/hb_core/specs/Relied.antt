-- What the calls of a core rely on; of the private calls of a step a record for each, which also says that the number is an actor's.
use Rattle.std.specs.Prelude.{◌≡◌, ℕ, ◌-◌, ◌≤◌, All, length, Option, Some, None, IsSome}
use Rattle.std.specs.List.{slice_get}
use Rattle.hb_disk.specs.Model.{DiskModel}
use Rattle.hb_space.specs.Actors.{IsActor}
use Rattle.hb_set.specs.declared.commands.Reply.{Reply}
use Rattle.hb_activity.specs.declared.activities.Activity.{Activity}
use Rattle.hb_activity.specs.declared.activities.Activity.TheVariants as at
use Rattle.hb_activity.specs.declared.wanting.Wanted.{Wanted}
use Rattle.hb_store.specs.States.{StoreState, in_memory}
use Rattle.hb_steps.specs.declared.asked_boxes.AskedBox.{AskedBox}
use Rattle.hb_steps.specs.Asking.{asked_box, wanted_by}
use Rattle.hb_core.specs.declared.aiming.Aim.{Aim}
use Rattle.hb_core.specs.Aiming.{HasMany}
use Rattle.hb_core.specs.CoreUpdates.{StandsAs}
use Rattle.hb_steps.specs.KeptFits.{LineFits}
use Rattle.hb_steps.specs.Looking.{MayLook}
use Rattle.hb_steps.specs.Machines.{Machine}
use Rattle.hb_core.specs.Showing.{RunningCore}
use Rattle.hb_core.specs.Taking.{HaveBoxes}
use Rattle.hb_core.specs.Going.{IsWorking, MayWork}
use Rattle.hb_core.specs.Working.{HasCome, HasPages, MayStep}

-- the core shows a machine that may take steps; or one that may and isn't stopped
abbrev pub MayTakeSteps : DiskModel → RunningCore → Type 0
MayTakeSteps d c = (m : Machine) × MayStep d c m

abbrev pub MayRun : DiskModel → RunningCore → Type 0
MayRun d c = (m : Machine) × MayStep d c m × (m.stop ≡ None)

-- ---- a step that takes or answers a line

-- so many lines lie behind a session, and no more than there are; the boxes of lines and of locks have the file's attributes
pub record MayTakeLine (c : RunningCore) (who : ℕ) : Type 0 where
  pub actor : IsActor who
  pub boxes : HaveBoxes c.store.meta.k c.activities
  pub lines : All (LineFits c.store.meta.k) c.lines
  pub behind : (behind : ℕ) × (slice_get c.behind (who - 1) ≡ Some behind) × (behind ≤ length c.lines)

-- a session awaits some place; or this one, in a machine that runs
pub record AwaitsSomePlace (c : RunningCore) (who : ℕ) : Type 0 where
  pub actor : IsActor who
  pub awaits : (number place : ℕ) × (reply : Reply) × StandsAs c who (at.SessionAwait number reply place)

pub record MayAwait (d : DiskModel) (c : RunningCore) (who place : ℕ) : Type 0 where
  pub actor : IsActor who
  pub may : MayRun d c
  pub awaits : (number : ℕ) × (reply : Reply) × StandsAs c who (at.SessionAwait number reply place)

-- ---- a step that wants a latch or changes the file

-- the actor is at work, in a machine that runs
pub record IsAtWork (d : DiskModel) (c : RunningCore) (who : ℕ) : Type 0 where
  pub actor : IsActor who
  pub may : (m : Machine) × MayStep d c m × (m.stop ≡ None) × IsWorking (m.activity who)

-- it is at work, and the page into which its step looks is there
pub record MayAim (c : RunningCore) (who : ℕ) : Type 0 where
  pub actor : IsActor who
  pub working : (activity : Activity) → StandsAs c who activity → IsWorking activity
  pub look : (activity : Activity) → StandsAs c who activity → MayLook c.store activity

-- its row may be done, and wants this page, with this box
pub record MayDoRow (d : DiskModel) (c : RunningCore) (who : ℕ) (aim : Aim) : Type 0 where
  pub actor : IsActor who
  pub may : (m : Machine) × MayStep d c m × MayWork m who
  pub wanted : (m : Machine) → MayStep d c m → aim.wanted ≡ wanted_by m who
  pub asked : (m : Machine) → MayStep d c m → aim.asked ≡ asked_box (m.activity who) m.store

-- that page is in memory, and the box that it is to have is one of the file's attributes
pub record MayTest (st : StoreState) (wanted : Wanted) (asked : Option AskedBox) : Type 0 where
  pub there : IsSome (in_memory st wanted.page)
  pub many : HasMany st.meta.k asked

-- it passed, and a number may be needed
pub record MayNumber (d : DiskModel) (c : RunningCore) (who : ℕ) (page : Option Wanted) : Type 0 where
  pub actor : IsActor who
  pub come : (m : Machine) × HasCome m who d c
  pub wanted : (m : Machine) → HasCome m who d c → page ≡ wanted_by m who

-- so is the number, and the decider may be asked
pub record MayDecide (d : DiskModel) (c : RunningCore) (who : ℕ) (page : Option Wanted) (free : Option (ℕ × ℕ)) : Type 0 where
  pub actor : IsActor who
  pub pages : (m : Machine) × HasPages m who free d c
  pub wanted : (m : Machine) → HasPages m who free d c → page ≡ wanted_by m who
