-- When a machine may go on: what is known of it, and of a step that wants a page or changes the file.
use Rattle.std.specs.Prelude.{◌≡◌, ℕ, None, IfSome}
use Rattle.hb_activity.specs.declared.activities.Activity.{Activity}
use Rattle.hb_activity.specs.declared.activities.Activity.TheVariants as at
use Rattle.hb_steps.specs.Asking.{HasWayFree}
use Rattle.hb_steps.specs.KeptMachine.{MachineKeeps}
use Rattle.hb_steps.specs.Keeps.{HasSoundFile}
use Rattle.hb_steps.specs.Machines.{Machine}
use Rattle.hb_steps.specs.Steps.{IsUnready}

-- What is known of a machine of which a core takes a step: it keeps what every machine keeps, and its files are sound.
pub record MayGoOn (m : Machine) : Type 0 where
  pub kept : MachineKeeps m
  pub sound : IfSome m.files (HasSoundFile m)

-- the activities that want a latch or change the file
abbrev pub IsWorking : Activity → Type 0
IsWorking (at.SessionWalk line held rest found) = Unit {0}
IsWorking (at.SessionSplit line held) = Unit {0}
IsWorking (at.SessionPut line source fresh) = Unit {0}
IsWorking (at.PosterGrow job) = Unit {0}
IsWorking (at.PosterWalk job held) = Unit {0}
IsWorking (at.PosterChild job parent) = Unit {0}
IsWorking (at.PosterPromote job parent) = Unit {0}
IsWorking (at.PosterAgain job parent) = Unit {0}
IsWorking (at.ConsolidatorWalk job held) = Unit {0}
IsWorking (at.ConsolidatorScan job parent child) = Unit {0}
IsWorking (at.ConsolidatorTry job parent keep gone leaf) = Unit {0}
IsWorking (at.ConsolidatorPromote job parent keep gone) = Unit {0}
IsWorking (at.ConsolidatorKeep job parent keep gone) = Unit {0}
IsWorking (at.ConsolidatorDecide job parent keep gone) = Unit {0}
IsWorking other = ⊥

-- Such a step may be done: the machine runs, nobody is in the way, and the log is ready for a change, where one may come.
pub record MayWork (m : Machine) (actor : ℕ) : Type 0 where
  pub goes_on : MayGoOn m
  pub runs : m.stop ≡ None
  pub working : IsWorking (m.activity actor)
  pub free : HasWayFree m actor
  pub ready : ¬ (IsUnready m actor)
