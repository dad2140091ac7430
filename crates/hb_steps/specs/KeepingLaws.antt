-- What each step keeps of the walks, the room and the groups that wait, and what follows for a list of steps, as laws.
use Rattle.std.specs.Prelude.{◌≡◌, ◌⊎◌, ℕ, ◌<◌, ◌≤◌, List, length, take, All, Some}
use Rattle.hb_set.specs.declared.scripts.Answered.{Answered}
use Rattle.hb_activity.specs.declared.activities.Activity.TheVariants as at
use Rattle.hb_steps.specs.declared.outcomes.Outcome.{Outcome}
use Rattle.hb_steps.specs.declared.outcomes.Outcome.TheVariants as outcomes
use Rattle.hb_steps.specs.DamageLaws.{IsUndamaged}
use Rattle.hb_steps.specs.Keeps.{HasNobodyElse, HasSoundFile, HoldsPagesOfFile, KnowsRoom, LatchesFit, WalksInSpace}
use Rattle.hb_steps.specs.KeptLines.{MetaWithinLimits}
use Rattle.hb_steps.specs.KeptOrder.{HasLegalOrder, HasPendingPrefix, StandsInOrder, StandsOutside}
use Rattle.hb_steps.specs.KeptMachine.{CoreKeeps}
use Rattle.hb_steps.specs.KeptPlaces.{MarksRise, RepliesStand}
use Rattle.hb_steps.specs.Machines.{Files, Machine, settled_count}
use Rattle.hb_steps.specs.SteppingLaws.{IsBegunOver}
use Rattle.hb_steps.specs.Steps.{StepsInSequence, StepsTo}
use Rattle.hb_space.specs.Actors.{IsActor}
use Rattle.hb_ops.specs.Files.{FileState, contents_of}
use Rattle.hb_set.specs.Machine.{RecordSet}
use Rattle.hb_set.specs.Order.{IsLegalOrder, result_of}

-- Under no number but those of the actors anybody comes to stand.
abbrev pub NobodyElseComes : Type 0
NobodyElseComes = (m : Machine) (actor : ℕ) (outcome : Outcome) (new : Machine) → IsActor actor → HasNobodyElse m → StepsTo m actor outcome new → HasNobodyElse new

-- After a step the page that a walk holds has the walk's point in its box, and the parent that a poster holds has a child
-- leaf at the job's point. So it is over every disk.
abbrev pub WalksStayInSpace : Type 0
WalksStayInSpace = (m : Machine) (actor : ℕ) (outcome : Outcome) (new : Machine) → IsActor actor → LatchesFit m → HoldsPagesOfFile m → HasNobodyElse m → WalksInSpace m →
    StepsTo m actor outcome new → WalksInSpace new

-- After a step a page that is to be split directly holds the point of its insert, without a record there and without room, and
-- one of the two halves of a split directly holds it, without a record there and with room. So it is over every disk.
abbrev pub RoomStaysKnown : Type 0
RoomStaysKnown = (m : Machine) (actor : ℕ) (outcome : Outcome) (new : Machine) → IsActor actor → LatchesFit m → HoldsPagesOfFile m → MetaWithinLimits m → HasNobodyElse m → KnowsRoom m →
    StepsTo m actor outcome new → KnowsRoom new

-- A line is answered once its place in the order is settled, or outside of the order.
abbrev pub IsAnsweredInPlace : Machine → ℕ → Outcome → Type 0
IsAnsweredInPlace m actor (outcomes.Answered number reply) = StandsOutside reply ⊎ ((place : ℕ) × (m.activity actor ≡ at.SessionAwait number reply place) × (place < settled_count m))
IsAnsweredInPlace m actor other = Unit {0}

abbrev pub AnswersAreInPlace : Type 0
AnswersAreInPlace = (m : Machine) (actor : ℕ) (outcome : Outcome) (new : Machine) → StepsTo m actor outcome new → IsAnsweredInPlace m actor outcome

-- No step unsettles a place of the order.
abbrev pub SettledStaysSettled : Type 0
SettledStaysSettled = (n : RecordSet) (m : Machine) (files : Files) (actor : ℕ) (outcome : Outcome) (new : Machine) → m.files ≡ Some files → HasSoundFile m files → HasLegalOrder n m files → HasPendingPrefix n m files →
    StepsTo m actor outcome new → settled_count m ≤ settled_count new

-- After a step the file before each group that waits has the set after as many entries of the order as its mark says, and each
-- answered entry stands below the oldest one's, where the order is legal before and after the step.
abbrev pub PrefixStaysPending : Type 0
PrefixStaysPending = (n : RecordSet) (m : Machine) (files : Files) (actor : ℕ) (outcome : Outcome) (new : Machine) (files' : Files) → m.files ≡ Some files → new.files ≡ Some files' → HasSoundFile m files →
    HasLegalOrder n m files → RepliesStand m → HasPendingPrefix n m files → StepsTo m actor outcome new → IsLegalOrder n new.order → HasPendingPrefix n new files'

-- A file has the set after the first entries of the order, as many as this number; and each line that was answered is one of
-- them, with its reply, or was answered outside of the order.
abbrev pub IsAmongFirst : Machine → ℕ → Answered → Type 0
IsAmongFirst m count a = StandsOutside a.reply ⊎ ((place : ℕ) × (place < count) × StandsInOrder m.order a.line a.reply place)

pub record HasSetAfter (n : RecordSet) (m : Machine) (s : FileState) (count : ℕ) : Type 0 where
  pub inside : count ≤ length m.order
  pub contents : contents_of s ≡ result_of n (take count m.order)
  pub answered : All (IsAmongFirst m count) m.answered

-- So the durable file has the set after a prefix of the order that has each entry answered by then, and the file after each
-- group that waits has the set after one that is at least as long.
abbrev pub IsAfterLonger : RecordSet → Machine → FileState → Type 0
IsAfterLonger n m s = (count : ℕ) × (settled_count m ≤ count) × HasSetAfter n m s count

pub record HasPrefixes (n : RecordSet) (m : Machine) (files : Files) : Type 0 where
  pub durable : HasSetAfter n m files.durable (settled_count m)
  pub later : All (IsAfterLonger n m) files.later

abbrev pub FilesHavePrefixes : Type 0
FilesHavePrefixes = (n : RecordSet) (m : Machine) (files : Files) → HasSoundFile m files → HasLegalOrder n m files → RepliesStand m → MarksRise m → HasPendingPrefix n m files → HasPrefixes n m files

-- Steps of actors, in whatever sequence, keep all that a machine keeps over a disk that tells, and unsettle no place of the
-- order. Where nothing but a write fault had stopped the machine, nothing else has.
pub record HasKeptAll (n : RecordSet) (m new : Machine) (files : Files) : Type 0 where
  pub keeps : CoreKeeps n new files
  pub prefixes : HasPrefixes n new files
  pub settled : settled_count m ≤ settled_count new
  pub undamaged : IsUndamaged m → IsUndamaged new

abbrev pub StepsKeepAll : Type 0
StepsKeepAll = (n : RecordSet) (actors : List ℕ) (m : Machine) (files : Files) (new : Machine) → All IsActor actors → CoreKeeps n m files → StepsInSequence actors m new → (files' : Files) × HasKeptAll n m new files'

-- So they do from a beginning on.
abbrev pub BegunKeepsAll : Type 0
BegunKeepsAll = (s : FileState) (actors : List ℕ) (m new : Machine) → IsBegunOver m s → All IsActor actors → StepsInSequence actors m new → (files : Files) × HasKeptAll (contents_of s) m new files
