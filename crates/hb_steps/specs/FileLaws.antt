-- What a step does to the file, as laws.
use Rattle.std.specs.Prelude.{◌≡◌, ℕ, Some}
use Rattle.hb_ops.specs.declared.operations.Op.{Op}
use Rattle.hb_steps.specs.declared.outcomes.Outcome.{Outcome}
use Rattle.hb_steps.specs.Acting.{DoesRow}
use Rattle.hb_steps.specs.Keeps.{HasSoundFile, HoldsPagesOfFile, LatchesFit}
use Rattle.hb_steps.specs.KeptLines.{LinesFit, MetaWithinLimits}
use Rattle.hb_steps.specs.Machines.{Files, Machine, current_file}
use Rattle.hb_steps.specs.Steps.{StepsTo}
use Rattle.hb_ops.specs.Operations.{IsAllowed, IsLicensed, OpHas}
use Rattle.hb_space.specs.Actors.{IsActor}

-- What the lines would store can be stored after a step, too.
abbrev pub LinesStayFit : Type 0
LinesStayFit = (m : Machine) (actor : ℕ) (outcome : Outcome) (new : Machine) → LinesFit m → StepsTo m actor outcome new → LinesFit new

-- After a step every page in memory is one of the file and keeps the rules that speak of a page alone, and what the file
-- says of itself is within the limits, over every disk: the pages that an actor has latched are as it left them.
abbrev pub PagesStayOfFile : Type 0
PagesStayOfFile = (m : Machine) (actor : ℕ) (outcome : Outcome) (new : Machine) → IsActor actor → LatchesFit m → LinesFit m → MetaWithinLimits m → HoldsPagesOfFile m → StepsTo m actor outcome new → HoldsPagesOfFile new

abbrev pub MetaStaysWithinLimits : Type 0
MetaStaysWithinLimits = (m : Machine) (actor : ℕ) (outcome : Outcome) (new : Machine) → IsActor actor → LatchesFit m → LinesFit m → MetaWithinLimits m → HoldsPagesOfFile m → StepsTo m actor outcome new → MetaWithinLimits new

-- The operation that a row does is allowed in the file as the steps see it, and its caller may know what it has to: the
-- free head afterwards is what the free page names, and the child gave exactly the box that is posted.
pub record MayBeDoneIn (files : Files) (op : Op) : Type 0 where
  pub allowed : IsAllowed (current_file files) op
  pub licensed : IsLicensed (current_file files) op
  pub attributes : OpHas (current_file files).meta.k op

abbrev pub RowsAreLicensed : Type 0
RowsAreLicensed = (m : Machine) (files : Files) (actor : ℕ) (outcome : Outcome) (new : Machine) (op : Op) → m.files ≡ Some files → LinesFit m → HoldsPagesOfFile m → HasSoundFile m files →
    (does : DoesRow m actor outcome new) → does.deed.op ≡ Some op → MayBeDoneIn files op

-- After a step every file is sound: the durable one, and that after each group that waits. What is in memory is the last one's.
abbrev pub FilesStaySound : Type 0
FilesStaySound = (m : Machine) (files : Files) (actor : ℕ) (outcome : Outcome) (new : Machine) → m.files ≡ Some files → LinesFit m → HoldsPagesOfFile m → HasSoundFile m files →
    StepsTo m actor outcome new → (after : Files) × (new.files ≡ Some after) × HasSoundFile new after
