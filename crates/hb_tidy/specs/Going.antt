-- How a core goes on while it is tidied: what a call wants of it, and what it has come to behind the call.
use Rattle.std.specs.Prelude.{◌≡◌, ◌≢◌, ◌<◌, ◌-◌, ◌^◌, ℕ, Result, IfErr, OnOk, Some}
use Rattle.std.specs.List.{slice_get}
use Rattle.hb_activity.specs.declared.activities.Activity.{Activity}
use Rattle.hb_space.specs.Actors.{IsActor}
use Rattle.hb_disk.specs.Model.{DiskModel}
use Rattle.hb_layout.specs.declared.meta.Meta.{Meta}
use Rattle.hb_core.specs.BetweenLaws.{CountsStayWithin, LookingKeepsAll, WaitingKeepsAll}
use Rattle.hb_core.specs.Counting.{CountsWithin}
use Rattle.hb_steps.specs.Machines.{Machine}
use Rattle.hb_core.specs.Runs.{RunningLaws}
use Rattle.hb_core.specs.Showing.{RunningCore}
use Rattle.hb_steps.specs.SteppingLaws.{IsAtRest}
use Rattle.hb_core.specs.Relied.{MayRun}
use Rattle.hb_core.specs.Working.{MayStep}
use Rattle.hb_tidy.specs.declared.stops.TidyStop.{TidyStop}
use Rattle.hb_tidy.specs.Counted.{EndsSpent}
use Rattle.hb_tidy.specs.Tidying.{HasTidied, StopsTidying}
use Rattle.hb_tidy.specs.Working.{HasWorked}

-- The laws of the core by which it goes on; a call of the core's laws tells them once, and each call hands them on.
pub record TidyLaws : Type 0 where
  pub runs : RunningLaws
  pub waiting : WaitingKeepsAll
  pub looking : LookingKeepsAll
  pub counts : CountsStayWithin

-- A core may go on: it isn't stopped, no more operations of a kind were counted than steps, and the count of steps has some left.
pub record MayTidy (d : DiskModel) (c : RunningCore) : Type 0 where
  pub laws : TidyLaws
  pub runs : MayRun d c
  pub counts : CountsWithin c
  pub left : c.taken < 2 ^ 64 - 1

-- It may go on, and so much is known of its file, by what that says of itself. No look changes this.
pub record MayTidyWhere (P : Meta → Type 0) (d : DiskModel) (c : RunningCore) : Type 0 where
  pub may : MayTidy d c
  pub known : P c.store.meta

-- each actor but this one is at rest, as a core has them; or each, but for nobody
abbrev pub RestsBut : ℕ → RunningCore → Type 0
RestsBut actor c = (other : ℕ) → IsActor other → other ≢ actor → (a : Activity) × (slice_get c.activities (other - 1) ≡ Some a) × IsAtRest a

abbrev pub AllRest : RunningCore → Type 0
AllRest c = RestsBut 0 c

-- A call, from one machine that the core showed, and from each of them. Where it ends well the core may go on.
pub record Does {T : Type 0} (result : Result T TidyStop) (d : DiskModel) (old : RunningCore) (m : Machine) (e : DiskModel) (c : RunningCore) : Type 0 where
  pub run : HasTidied d m e c
  pub worked : HasWorked result old m c run.new
  pub err : IfErr result (λ stop. StopsTidying stop d e c run.new)

pub record Goes {T : Type 0} (result : Result T TidyStop) (d : DiskModel) (old : RunningCore) (e : DiskModel) (new : RunningCore) : Type 0 where
  pub does : (m : Machine) → MayStep d old m → Does result d old m e new
  pub spent : EndsSpent result new
  pub may : OnOk result (MayTidy e new)
