-- What a step does to the order, as laws.
use Rattle.std.specs.Prelude.{◌≡◌, ℕ, [], ◌∷◌, ◌++◌, Some}
use Rattle.hb_space.specs.Actors.{IsActor}
use Rattle.hb_steps.specs.declared.outcomes.Outcome.{Outcome}
use Rattle.hb_steps.specs.ContentsLaws.{contents_now}
use Rattle.hb_steps.specs.Keeps.{HasSoundFile}
use Rattle.hb_steps.specs.KeptMachine.{MachineKeeps}
use Rattle.hb_steps.specs.KeptOrder.{HasLegalOrder}
use Rattle.hb_steps.specs.KeptSearches.{SearchesAreExact}
use Rattle.hb_steps.specs.KeptSequence.{LinesInSequence}
use Rattle.hb_steps.specs.Machines.{Files, Machine}
use Rattle.hb_steps.specs.Steps.{StepsTo}
use Rattle.hb_point.specs.SessionRows.{WantsBoxes}
use Rattle.hb_set.specs.Machine.{RecordSet, reply_of}
use Rattle.hb_set.specs.Order.{Entry}

-- After a step each session still answers its lines in their order.
abbrev pub SequenceStays : Type 0
SequenceStays = (m : Machine) (actor : ℕ) (outcome : Outcome) (new : Machine) → LinesInSequence m → StepsTo m actor outcome new → LinesInSequence new

-- After a step each search has found exactly the records of the contents that its box holds and no remaining box does: nobody else
-- changes a point of a box that is locked.
abbrev pub SearchesStayExact : Type 0
SearchesStayExact = (m : Machine) (files after : Files) (actor : ℕ) (outcome : Outcome) (new : Machine) → IsActor actor → m.files ≡ Some files → MachineKeeps m → HasSoundFile m files →
    SearchesAreExact m files → StepsTo m actor outcome new → new.files ≡ Some after → SearchesAreExact new after

-- Where a search takes effect in a step, its reply is the machine's.
abbrev pub SearchesAreRight : Type 0
SearchesAreRight = (m : Machine) (files : Files) (actor : ℕ) (outcome : Outcome) (new : Machine) (entry : Entry) → m.files ≡ Some files → MachineKeeps m → HasSoundFile m files → SearchesAreExact m files →
    StepsTo m actor outcome new → new.order ≡ m.order ++ entry ∷ [] → WantsBoxes entry.line.command → entry.reply ≡ reply_of entry.line.command (contents_now files)

-- After a step the order is legal, and the file has its result.
abbrev pub OrderStaysLegal : Type 0
OrderStaysLegal = (n : RecordSet) (m : Machine) (files after : Files) (actor : ℕ) (outcome : Outcome) (new : Machine) → m.files ≡ Some files → MachineKeeps m → HasSoundFile m files → SearchesAreExact m files →
    HasLegalOrder n m files → StepsTo m actor outcome new → new.files ≡ Some after → HasLegalOrder n new after
