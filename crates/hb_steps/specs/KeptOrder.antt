-- What every machine keeps of its order and of the groups that wait.
use Rattle.std.specs.Prelude.{◌≡◌, ◌⊎◌, ℕ, ◌<◌, ◌≤◌, List, [], ◌∷◌, length, take, All, Some}
use Rattle.std.specs.List.{slice_get}
use Rattle.hb_set.specs.declared.commands.Reply.{Reply}
use Rattle.hb_set.specs.declared.commands.Reply.TheVariants as replies
use Rattle.hb_set.specs.declared.scripts.Answered.{Answered}
use Rattle.hb_steps.specs.Machines.{Files, Machine, current_file, settled_count}
use Rattle.hb_ops.specs.Files.{FileState, contents_of}
use Rattle.hb_set.specs.Machine.{RecordSet}
use Rattle.hb_set.specs.Order.{Entry, IsLegalOrder, result_of}
use Rattle.hb_wal.specs.Log.{Waiting}

-- which replies are given outside of the order
abbrev pub StandsOutside : Reply → Type 0
StandsOutside replies.Full = Unit {0}
StandsOutside replies.NoMemory = Unit {0}
StandsOutside replies.ReadFault = Unit {0}
StandsOutside other = ⊥

-- a line's reply stands at this place of an order
pub record StandsInOrder (order : List Entry) (number : ℕ) (reply : Reply) (place : ℕ) : Type 0 where
  pub entry : Entry
  pub there : slice_get order place ≡ Some entry
  pub number_is : entry.line.number ≡ number
  pub reply_is : entry.reply ≡ reply

-- a line was answered outside of the order, or stands somewhere in it with its reply
abbrev pub StandsSomewhere : List Entry → Answered → Type 0
StandsSomewhere order a = StandsOutside a.reply ⊎ ((place : ℕ) × StandsInOrder order a.line a.reply place)

-- wherever it stands, that place is settled
abbrev pub IsSettledIn : Machine → Answered → Type 0
IsSettledIn m a = (place : ℕ) → StandsInOrder m.order a.line a.reply place → place < settled_count m

-- The order is legal from the set that was opened, and the file has its result.
pub record HasLegalOrder (n : RecordSet) (m : Machine) (files : Files) : Type 0 where
  pub legal : IsLegalOrder n m.order
  pub result : result_of n m.order ≡ contents_of (current_file files)

-- The file before each group that waits has the set after as many entries of the order as the group's mark says. Each answered
-- entry stands below the oldest group's mark.
abbrev pub FollowMarks : RecordSet → List Entry → FileState → List Waiting → List FileState → Type 0
FollowMarks n order before [] later = Unit {0}
FollowMarks n order before (group ∷ rest) [] = ⊥
FollowMarks n order before (group ∷ rest) (next ∷ later) = (group.mark ≤ length order) × (contents_of before ≡ result_of n (take group.mark order)) × FollowMarks n order next rest later

pub record HasPendingPrefix (n : RecordSet) (m : Machine) (files : Files) : Type 0 where
  pub marks : FollowMarks n m.order files.durable m.store.log.groups files.later
  pub settled : All (IsSettledIn m) m.answered
