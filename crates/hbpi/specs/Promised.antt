-- What is promised of a run beside how it ends, by its form.
use Rattle.std.specs.Prelude.{◌≡◌, ℕ, ◌+◌, ◌≤◌, true, false, List, Option, Some, IsSome}
use Rattle.hb_disk.specs.Calls.{Leaves}
use Rattle.hb_ops.specs.Files.{FileState}
use Rattle.hb_ops.specs.Sound.{IsSound}
use Rattle.hb_store.specs.Opening.{IsEven, OpensTo}
use Rattle.hbpi.specs.Checked.{KeepsChecked}
use Rattle.hbpi.specs.Driven.{IsSaidWhole}
use Rattle.hbpi.specs.Drives.{LeavesLate}
use Rattle.hbpi.specs.Mapped.{KeepsMapped}
use Rattle.hbpi.specs.Promises.{AnswersAll, IsDriven, KeepsCounts, KeepsPromise, NamesScheduleLine, RefusesFile}
use Rattle.hbpi.specs.SeenRuns.{Run}
use Rattle.hbpi.specs.Tidied.{HasContents, IsTidiedWhole, KeepsTidied}
use Rattle.hbpi.specs.declared.forms.Form.{Form}
use Rattle.hbpi.specs.declared.forms.Form.TheVariants.{Check, Drive, Map, Tidy, Work}
use Rattle.hbpi.specs.declared.forms.Form.TheVariants as forms
use Rattle.hbpi.specs.declared.origins.Origin.{Origin}
use Rattle.hbpi.specs.declared.origins.Origin.TheVariants.{Drawn, Text}
use Rattle.hbpi.specs.declared.statuses.Status.{Status}
use Rattle.hbpi.specs.declared.statuses.Status.TheVariants.{Done}

-- where the disk tells and opens to a sound file
abbrev pub OverSoundFile : Run → (FileState → Type 0) → Type 0
OverSoundFile run P = (b : List ℕ) (s : FileState) → run.before.told ≡ Some b → OpensTo b s → IsSound s → P s

-- Of `drive`, `run` and `work`: the one order, its replies, and what crashes leave; that a good file and a good text give 0 or want of memory;
-- which line is named of a bad text; and that a bad file is refused by the one refusal that is true of it.
pub record KeepsSteps (origin : Origin) (run : Run) (status : Status) : Type 0 where
  pub promise : OverSoundFile run (λ s. KeepsPromise origin s run status)
  pub driven : IsDriven origin run status
  pub named : NamesScheduleLine origin run status
  pub refused : RefusesFile run status

-- Of `run` and `work` also: where it is done each line has an answer.
pub record KeepsThreads (origin : Origin) (run : Run) (status : Status) : Type 0 where
  pub steps : KeepsSteps origin run status
  pub answers : status ≡ Done → AnswersAll origin run

-- Of `work` also: its line has the counts, and the records of the file.
pub record KeepsWork (state count : ℕ) (run : Run) (status : Status) : Type 0 where
  pub threads : KeepsThreads (Drawn state count) run status
  pub counts : IsSome run.before.told → status ≡ Done → KeepsCounts run

-- Of `check`, `map` and `tidy`: what is so where it is done, and when it is; and that a bad file is refused.
pub record KeepsCheck (run : Run) (status : Status) : Type 0 where
  pub done : OverSoundFile run (λ s. status ≡ Done → KeepsChecked s run)
  pub whole : (s : FileState) → IsSaidWhole s run status
  pub refused : RefusesFile run status

pub record KeepsMap (run : Run) (status : Status) : Type 0 where
  pub done : OverSoundFile run (λ s. status ≡ Done → KeepsMapped s run)
  pub whole : (s : FileState) → IsSaidWhole s run status
  pub refused : RefusesFile run status

-- Of `tidy` also what crashes leave, whether it is done or not: a sound file with the same records.
pub record KeepsTidy (run : Run) (status : Status) : Type 0 where
  pub crashes : OverSoundFile run (λ s. IsEven run.before s → Leaves run.before run.after (HasContents s))
  pub late : OverSoundFile run (λ s. run.before.clock + 2 ≤ run.after.clock → LeavesLate run.before run.after (HasContents s))
  pub done : OverSoundFile run (λ s. status ≡ Done → KeepsTidied s run)
  pub whole : (s : FileState) → IsTidiedWhole s run status
  pub refused : RefusesFile run status

abbrev pub KeepsForm : Option Form → Run → Status → Type 0
KeepsForm (Some forms.Run) run status = KeepsThreads (Text false) run status
KeepsForm (Some Drive) run status = KeepsSteps (Text true) run status
KeepsForm (Some (Work x n)) run status = KeepsWork x n run status
KeepsForm (Some Check) run status = KeepsCheck run status
KeepsForm (Some Map) run status = KeepsMap run status
KeepsForm (Some Tidy) run status = KeepsTidy run status
KeepsForm _ run status = Unit {0}
