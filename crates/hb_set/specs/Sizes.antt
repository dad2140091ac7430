-- How many records an order leaves.
use Rattle.std.specs.Prelude.{◌≡◌, ℕ, ◌+◌, Bool, true, false, List, count_by}
use Rattle.std.specs.FinMap as map
use Rattle.hb_set.specs.declared.commands.Command.{Command}
use Rattle.hb_set.specs.declared.commands.Command.TheVariants.{Insert, Delete}
use Rattle.hb_set.specs.declared.commands.Reply.{Reply}
use Rattle.hb_set.specs.declared.commands.Reply.TheVariants.{Done}
use Rattle.hb_set.specs.Machine.{RecordSet}
use Rattle.hb_set.specs.Order.{Entry, AreReplies, result_of}

-- a command that was answered so has added a record, or has taken one away
abbrev pub adds_record : Reply → Command → Bool
adds_record Done (Insert rec) = true
adds_record reply command = false

abbrev pub takes_record : Reply → Command → Bool
takes_record Done (Delete point) = true
takes_record reply command = false

-- how many of these entries have
abbrev pub added_by : List Entry → ℕ
added_by es = count_by (λ (e : Entry). adds_record e.reply e.line.command) es

abbrev pub taken_by : List Entry → ℕ
taken_by es = count_by (λ (e : Entry). takes_record e.reply e.line.command) es

-- Where each reply is the machine's, there is a record more in the end for each entry that has added one, and one less for each that has
-- taken one away.
abbrev pub SizesFollowReplies : Type 0
SizesFollowReplies = (m : RecordSet) (es : List Entry) → AreReplies m es → map.len m + added_by es ≡ map.len (result_of m es) + taken_by es
