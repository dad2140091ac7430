-- What a run of a core comes to: many steps, from a machine that it shows to one that it shows then.
use Rattle.std.specs.Prelude.{◌≡◌, ℕ, ◌+◌, ◌≤◌, Bool, not, All, Any, List, ◌++◌, count_by, filter, length, map, Option, Some, IsSome}
use Rattle.hb_disk.specs.Calls.{Becomes, Leaves}
use Rattle.hb_disk.specs.Model.{DiskModel, Torn}
use Rattle.hb_layout.specs.Offsets.{file_size}
use Rattle.hb_space.specs.Actors.{IsActor}
use Rattle.hb_outside.specs.Streams.{Rose}
use Rattle.hb_set.specs.declared.commands.Reply.TheVariants as replies
use Rattle.hb_point.specs.SessionRows.{is_answered}
use Rattle.hb_set.specs.declared.scripts.Answered.{Answered}
use Rattle.hb_set.specs.declared.scripts.Line.{Line}
use Rattle.hb_set.specs.Machine.{RecordSet}
use Rattle.hb_set.specs.Order.{Entry}
use Rattle.hb_store.specs.declared.stops.StopWhy.{StopWhy}
use Rattle.hb_store.specs.declared.stops.StopWhy.TheVariants as stops
use Rattle.hb_store.specs.Keeps.{PartsOpen}
use Rattle.hb_store.specs.States.{StoreState}
use Rattle.hb_steps.specs.FileLaws.{FilesStaySound}
use Rattle.hb_steps.specs.KeepingLaws.{StepsKeepAll}
use Rattle.hb_steps.specs.KeptMachine.{CoreKeeps}
use Rattle.hb_steps.specs.KeptOrder.{StandsInOrder}
use Rattle.hb_steps.specs.MachineLaws.{MachineStaysKept}
use Rattle.hb_steps.specs.Machines.{Files, Machine}
use Rattle.hb_steps.specs.MomentLaws.{ImagesHavePrefixes, IsPrefixImage}
use Rattle.hb_core.specs.Showing.{RunningCore, ShowsMachine}
use Rattle.hb_steps.specs.Steps.{StepsInSequence}
use Rattle.hb_core.specs.Going.{MayGoOn}

-- Since the answer every image has a prefix of the order that holds it, where it stands in the order.
abbrev pub HoldsSince : DiskModel → RecordSet → List Entry → Answered → Type 0
HoldsSince e n order a = (place : ℕ) → StandsInOrder order a.line a.reply place → (c : List ℕ) → e.ImageSince a.at c → IsPrefixImage n order (place + 1) c

-- What crashes leave of a run from one moment of the disk to another, by the machine that it came to: at each moment the set after a
-- prefix of its order, which since an answer holds it.
pub record CrashesTo (n : RecordSet) (d e : DiskModel) (m : Machine) (answers : List Answered) : Type 0 where
  pub each : Leaves d e (IsPrefixImage n m.order 0)
  pub since : All (HoldsSince e n m.order) answers

-- The answers that a run gave are those that came to the machine. Over a disk that tells nothing the clocks are tied to nothing.
abbrev pub without_clock : Answered → Answered
without_clock a = record { line = a.line; reply = a.reply; at = 0 }

pub record AreAnswers (told : Option (List ℕ)) (given came : List Answered) : Type 0 where
  pub alike : map without_clock given ≡ map without_clock came
  pub same : IsSome told → given ≡ came

-- how many lines have no answer, and their numbers
abbrev pub has_none : Machine → Line → Bool
has_none m line = not (is_answered line.number m.answered)

abbrev pub left_count : Machine → ℕ
left_count m = count_by (has_none m) m.lines

abbrev pub left_numbers : Machine → List ℕ
left_numbers m = map (λ (l : Line). l.number) (filter (has_none m) m.lines)

-- Counts of faults never fall; a reply `read fault` comes of a failed read, and a stop by a failed write of one.
abbrev pub HasReadFault : List Answered → Type 0
HasReadFault answers = Any (λ (a : Answered). a.reply ≡ replies.ReadFault) answers

pub record CountsFaults (d e : DiskModel) (answers : List Answered) (before after : Option StopWhy) : Type 0 where
  pub reads : d.read_faults ≤ e.read_faults
  pub writes : d.write_faults ≤ e.write_faults
  pub read : HasReadFault answers → Rose d.read_faults e.read_faults
  pub write : after ≡ Some stops.WriteFault → (before ≡ Some stops.WriteFault → ⊥) → Rose d.write_faults e.write_faults

-- Nothing outside the file becomes other bytes.
abbrev pub ChangesFile : StoreState → List ℕ → List ℕ → Type 0
ChangesFile st before after = Torn 0 (file_size st.meta) before after

-- Steps of these actors led from the machine to one that the core shows now, and these are the answers that came. What is known of a
-- machine of which a core takes steps stays known. Only bytes of the file may be other ones. Over a disk that tells, and from a
-- machine that keeps all that it should there, crashes leave prefixes.
pub record HasRun (d : DiskModel) (m : Machine) (actors : List ℕ) (answers : List Answered) (e : DiskModel) (c : RunningCore) : Type 0 where
  pub new : Machine
  pub may : All IsActor actors
  pub steps : StepsInSequence actors m new
  pub shows : ShowsMachine e c new
  pub goes_on : MayGoOn new
  pub came : List Answered
  pub answered : new.answered ≡ m.answered ++ came
  pub answers_are : AreAnswers d.told answers came
  pub left : length came + left_count new ≡ left_count m
  pub faults : CountsFaults d e answers m.stop new.stop
  pub in_file : Becomes (ChangesFile m.store) d e
  pub crashes : (n : RecordSet) (files : Files) → CoreKeeps n m files → CrashesTo n d e new answers

-- The laws of one step and of many by which a run goes on.
pub record RunningLaws : Type 0 where
  pub kept : MachineStaysKept
  pub files : FilesStaySound
  pub changes : StepsKeepAll
  pub images : ImagesHavePrefixes
  pub opens : PartsOpen
