-- What is promised of a run of `drive`, `run` or `work` beside how it ends.
use Rattle.std.specs.Prelude.{◌≡◌, ◌⊎◌, ℕ, ◌+◌, ◌≤◌, IsTrue, List, [], map, take, All, Option, Some, Result, Ok, Err}
use Rattle.std.specs.FinMap as finite
use Rattle.std.specs.List.{Contains}
use Rattle.hb_steps.specs.KeptOrder.{StandsSomewhere}
use Rattle.hb_steps.specs.MomentLaws.{IsPrefixImage}
use Rattle.hb_core.specs.Runs.{HoldsSince}
use Rattle.hb_disk.specs.Calls.{Leaves}
use Rattle.hb_ops.specs.Files.{FileState, contents_of}
use Rattle.hb_ops.specs.Sound.{IsSound}
use Rattle.hb_outside.specs.Streams.{Appends, Rose}
use Rattle.hb_point.specs.SessionRows.{is_answered}
use Rattle.hb_restart.specs.Refusals.{IsUnwritten, RefusesBytes}
use Rattle.hb_restart.specs.declared.faults.OpenFault.{OpenFault}
use Rattle.hb_set.specs.Order.{Entry, IsLegalOrder, result_of}
use Rattle.hb_set.specs.declared.scripts.Line.{Line}
use Rattle.hb_store.specs.Opening.{IsEven, OpensTo}
use Rattle.hb_text.specs.Grammar.{Reading}
use Rattle.hb_text.specs.declared.rules.BadLine.{BadLine}
use Rattle.hbpi.specs.Codes.{status_of}
use Rattle.hbpi.specs.Counted.{counts_text}
use Rattle.hbpi.specs.Drives.{LeavesLate}
use Rattle.hbpi.specs.Schedules.{CameFrom, read_from}
use Rattle.hbpi.specs.SeenRuns.{HasFailed, Run, Seen}
use Rattle.hbpi.specs.declared.origins.Origin.{Origin}
use Rattle.hbpi.specs.declared.origins.Origin.TheVariants.{Text, Drawn}
use Rattle.hbpi.specs.declared.statuses.Status.{Status}
use Rattle.hbpi.specs.declared.statuses.Status.TheVariants.{Done, BadText, NoMemory}

-- some lines of the script that came
pub record AreOfScript (origin : Origin) (k : ℕ) (seen : Seen) (order : List Entry) : Type 0 where
  pub lines : List Line
  pub steps : List ℕ
  pub came : CameFrom origin k seen.source_before seen.source_after lines steps
  pub among : All (λ e. Contains lines e.line) order

-- The promise over a disk that tells and opens to a sound file. There is one order of lines of the script that took effect: its numbers
-- are those that the run prints, it keeps each session's order, and its replies are the record set's from the file on. Every answer
-- stands in it with its reply, or outside of it. Every image since an answer has a prefix that holds it; every image since the run
-- began has a prefix, where every image opened to the file then; and over any other disk every image since the first sync succeeded:
-- a second tick of the clock comes only after that. When the run is done every image opens to one file, which has a prefix.
pub record KeepsPromise (origin : Origin) (s : FileState) (run : Run) (status : Status) : Type 0 where
  pub order : List Entry
  pub numbers : run.seen.order ≡ map (λ e. e.line.number) order
  pub said : (order ≡ []) ⊎ AreOfScript origin s.meta.k run.seen order
  pub legal : IsLegalOrder (contents_of s) order
  pub replied : All (StandsSomewhere order) run.seen.answered
  pub held : All (HoldsSince run.after (contents_of s) order) run.seen.answered
  pub crashes : IsEven run.before s → Leaves run.before run.after (IsPrefixImage (contents_of s) order 0)
  pub late : run.before.clock + 2 ≤ run.after.clock → LeavesLate run.before run.after (IsPrefixImage (contents_of s) order 0)
  pub even : status ≡ Done → (t : FileState) × (count : ℕ) × IsEven run.after t × IsSound t × (contents_of t ≡ result_of (contents_of s) (take count order))

-- a source that is read told what it had left
abbrev pub TellsLeft : Origin → Option (List ℕ) → List ℕ → Type 0
TellsLeft (Text step_lines) told left = told ≡ Some left
TellsLeft (Drawn state count) told left = Unit {0}

-- Nothing failed: a disk that tells bytes, which open to this sound file, and a source that told what it had left.
pub record IsCalm (origin : Origin) (s : FileState) (left : List ℕ) (run : Run) : Type 0 where
  pub bytes : List ℕ
  pub told : run.before.told ≡ Some bytes
  pub opens : OpensTo bytes s
  pub sound : IsSound s
  pub text : TellsLeft origin run.seen.source_before.left left
  pub source : ¬ (Rose run.seen.source_before.faults run.seen.source_after.faults)
  pub disk : ¬ (HasFailed run)

-- what is answered to a text, but for want of memory: that it is done, unless the sink failed, or why not
abbrev pub GivesFor : Seen → Status → Result Reading BadLine → Type 0
GivesFor seen status (Ok reading) = ¬ (Rose seen.sink_before.faults seen.sink_after.faults) → (status ≡ Done) ⊎ (status ≡ NoMemory)
GivesFor seen status (Err bad) = (status ≡ BadText bad) ⊎ (status ≡ NoMemory)

abbrev pub IsDriven : Origin → Run → Status → Type 0
IsDriven origin run status = (s : FileState) (left : List ℕ) → IsCalm origin s left run → GivesFor run.seen status (read_from origin s.meta.k left)

-- Each line of the script that came has an answer.
pub record AnswersAll (origin : Origin) (run : Run) : Type 0 where
  pub k : ℕ
  pub lines : List Line
  pub steps : List ℕ
  pub came : CameFrom origin k run.seen.source_before run.seen.source_after lines steps
  pub each : All (λ (l : Line). IsTrue (is_answered l.number run.seen.answered)) lines

-- The line and the rule that are named are the first bad line of all that the source had left, by the attributes of
-- the file that the disk opens to, and its first rule.
abbrev pub NamesScheduleLine : Origin → Run → Status → Type 0
NamesScheduleLine origin run status = (bytes : List ℕ) (s : FileState) (left : List ℕ) (bad : BadLine) → run.before.told ≡ Some bytes → OpensTo bytes s → run.seen.source_before.left ≡ Some left → status ≡ BadText bad → read_from origin s.meta.k left ≡ Err bad

-- Where no call of a disk that tells failed: bytes that open to no sound file are refused, by a refusal that is true of
-- them; and a refusal that is true of them is the one that is answered. Memory may be refused in their place.
abbrev pub RefusesFile : Run → Status → Type 0
RefusesFile run status = (bytes : List ℕ) → run.before.told ≡ Some bytes → ¬ (HasFailed run) →
    (((s : FileState) → OpensTo bytes s → IsSound s → ⊥) → (status ≡ NoMemory) ⊎ ((fault : OpenFault) × (status ≡ status_of fault) × RefusesBytes fault bytes × IsUnwritten fault))
    × ((fault : OpenFault) → RefusesBytes fault bytes → IsUnwritten fault → (status ≡ status_of fault) ⊎ (status ≡ NoMemory))

-- After `work` is done over a disk that tells and opened to a sound file, its line was put: how many answers have each reply, and how many
-- records has the one file to which every image opens then.
pub record KeepsCounts (run : Run) : Type 0 where
  pub file : FileState
  pub even : IsEven run.after file
  pub sound : IsSound file
  pub line : Appends run.seen.sink_before.written run.seen.sink_after.written (counts_text run.seen.answered (finite.len (contents_of file)))
