-- What each step keeps over any disk, and what a body may know of a machine there, as laws.
use Rattle.std.specs.Prelude.{◌≡◌, ◌⊎◌, ℕ, List, All, Some, None}
use Rattle.hb_frag.specs.declared.pages.LivePage.{LivePage}
use Rattle.hb_space.specs.Actors.{IsActor}
use Rattle.hb_ops.specs.declared.operations.Op.{Op}
use Rattle.hb_activity.specs.declared.wanting.Wanted.{Wanted}
use Rattle.hb_activity.specs.Waiting.{IsLater}
use Rattle.hb_activity.specs.Walks.{walk_held, walk_point}
use Rattle.hb_sound.specs.PointWalks.{IsFurther}
use Rattle.hb_store.specs.Making.{IsDoableHere}
use Rattle.hb_store.specs.States.{StoreState}
use Rattle.hb_steps.specs.declared.outcomes.Outcome.{Outcome}
use Rattle.hb_steps.specs.AllowedLaws.{AnyPage, IsLicensedHere}
use Rattle.hb_steps.specs.Asking.{wanted_by}
use Rattle.hb_steps.specs.Fetching.{Brings}
use Rattle.hb_steps.specs.KeptMachine.{MachineKeeps}
use Rattle.hb_steps.specs.Locking.{BoxLocksFit}
use Rattle.hb_steps.specs.Machines.{Machine, live_here, modes, with_disk}
use Rattle.hb_steps.specs.Rows.{IsAtHand, Row}
use Rattle.hb_steps.specs.Steps.{StepsInSequence, StepsTo}
use Rattle.hb_steps.specs.WaitingLaws.{Promotes}
use Rattle.hb_activity.specs.Deeds.{Deed}

-- After a step locks of different actors whose boxes meet are shared.
abbrev pub BoxLocksStayFit : Type 0
BoxLocksStayFit = (m : Machine) (actor : ℕ) (outcome : Outcome) (new : Machine) → MachineKeeps m → StepsTo m actor outcome new → BoxLocksFit new

-- Every step keeps it, and so does a list of steps.
abbrev pub MachineStaysKept : Type 0
MachineStaysKept = (m : Machine) (actor : ℕ) (outcome : Outcome) (new : Machine) → IsActor actor → MachineKeeps m → StepsTo m actor outcome new → MachineKeeps new

abbrev pub MachinesStayKept : Type 0
MachinesStayKept = (actors : List ℕ) (m new : Machine) → All IsActor actors → MachineKeeps m → StepsInSequence actors m new → MachineKeeps new

-- The operation of a row is allowed on the pages in memory and licensed by them, its points and boxes have the file's number of
-- attributes, and the boxes of the pages that it reads match.
pub record MayBeDoneHere (st : StoreState) (op : Op) : Type 0 where
  pub doable : IsDoableHere op st
  pub licensed : IsLicensedHere st op

abbrev pub RowsMayBeDone : Type 0
RowsMayBeDone = (m : Machine) (actor : ℕ) (fetched : StoreState) (deed : Deed) (op : Op) → IsActor actor → MachineKeeps m → Brings m AnyPage fetched →
    Row (m.activity actor) (wanted_by m actor) (with_disk fetched m.files m.clock m) deed → deed.op ≡ Some op → MayBeDoneHere fetched op

-- The page that a walk latches after one that it holds comes later: it is of a lower level, or of the same level with a smaller
-- box. Any other page fails the test of level and box.
abbrev pub WalksLeadOn : Type 0
WalksLeadOn = (m : Machine) (actor : ℕ) (fetched : StoreState) (held : ℕ) (before : LivePage) (wanted : Wanted) (page : LivePage) → IsActor actor → MachineKeeps m → Brings m AnyPage fetched →
    walk_held (m.activity actor) ≡ Some held → live_here m.store held ≡ Some before → wanted_by m actor ≡ Some wanted → IsAtHand (with_disk fetched m.files m.clock m) (m.activity actor) wanted page → IsLater before page

-- For the walk's point it is further on: it has the point in its box, and is one level down, or of the same level with a box that
-- lies within the held page's and isn't all of it.
abbrev pub WalksLeadFurther : Type 0
WalksLeadFurther = (m : Machine) (actor : ℕ) (fetched : StoreState) (held : ℕ) (before : LivePage) (p : List ℕ) (wanted : Wanted) (page : LivePage) → IsActor actor → MachineKeeps m → Brings m AnyPage fetched →
    walk_held (m.activity actor) ≡ Some held → walk_point (m.activity actor) ≡ Some p → live_here m.store held ≡ Some before → wanted_by m actor ≡ Some wanted →
    IsAtHand (with_disk fetched m.files m.clock m) (m.activity actor) wanted page → IsFurther p before page

-- The page that a step latches is none that its actor holds, but for a promotion.
abbrev pub NoPageIsLatchedTwice : Type 0
NoPageIsLatchedTwice = (m : Machine) (actor : ℕ) (fetched : StoreState) (wanted : Wanted) (page : LivePage) → IsActor actor → MachineKeeps m → Brings m AnyPage fetched → wanted_by m actor ≡ Some wanted →
    IsAtHand (with_disk fetched m.files m.clock m) (m.activity actor) wanted page → (modes m actor wanted.page ≡ None) ⊎ Promotes (m.activity actor) wanted.page
