-- How many answers have each reply, and how many records a file has behind them.
use Rattle.std.specs.Prelude.{◌≡◌, ℕ, ◌+◌, ◌-◌, Bool, true, false, List, ◌++◌, codes, count_by, Option, Some, None, IfSome}
use Rattle.std.specs.Fmt.{decimal}
use Rattle.std.specs.FinMap as finite
use Rattle.std.specs.List.{slice_get}
use Rattle.hb_steps.specs.Machines.{Machine}
use Rattle.hb_ops.specs.Files.{FileState, contents_of}
use Rattle.hb_set.specs.Order.{result_of}
use Rattle.hb_set.specs.Sizes.{adds_record, takes_record}
use Rattle.hb_set.specs.declared.commands.Command.{Command}
use Rattle.hb_set.specs.declared.commands.Reply.{Reply}
use Rattle.hb_set.specs.declared.commands.Reply.TheVariants as replies
use Rattle.hb_set.specs.declared.scripts.Answered.{Answered}
use Rattle.hb_set.specs.declared.scripts.Line.{Line}
use Rattle.hb_store.specs.Opening.{OpensTo}
use Rattle.hbpi.specs.declared.counting.Kind.{Kind}
use Rattle.hbpi.specs.declared.counting.Kind.TheVariants as kinds

-- the replies of the record set, by kind
abbrev pub has_kind : Kind → Reply → Bool
has_kind kinds.Done replies.Done = true
has_kind kinds.Duplicate replies.Duplicate = true
has_kind kinds.Absent replies.Absent = true
has_kind kinds.Found (replies.Found body) = true
has_kind kinds.Missing replies.Missing = true
has_kind kinds.Within (replies.Within records) = true
has_kind kind reply = false

abbrev pub count_kind : Kind → List Answered → ℕ
count_kind kind answers = count_by (λ (a : Answered). has_kind kind a.reply) answers

-- The line of these answers, and of so many records.
abbrev pub counts_text : List Answered → ℕ → List ℕ
counts_text answers records =
    codes "ok " ++ decimal (count_kind kinds.Done answers)
    ++ codes " duplicate " ++ decimal (count_kind kinds.Duplicate answers)
    ++ codes " absent " ++ decimal (count_kind kinds.Absent answers)
    ++ codes " found " ++ decimal (count_kind kinds.Found answers)
    ++ codes " none " ++ decimal (count_kind kinds.Missing answers)
    ++ codes " box " ++ decimal (count_kind kinds.Within answers)
    ++ codes " records " ++ decimal records ++ codes "\n"

-- So many records are left of some behind these answers to lines of which each one's number is its place, from 1.
abbrev pub says_of : (Reply → Command → Bool) → Reply → Option Line → Bool
says_of test reply None = false
says_of test reply (Some line) = test reply line.command

abbrev pub says_at : (Reply → Command → Bool) → List Line → Answered → Bool
says_at test lines a = says_of test a.reply (slice_get lines (a.line - 1))

abbrev pub records_left : List Line → List Answered → ℕ → ℕ
records_left lines answers records = (records + count_by (says_at adds_record lines) answers) - count_by (says_at takes_record lines) answers

-- So many records has the set that the machine's order leaves, from the file on to which the bytes opened.
abbrev pub HasRecords : Option (List ℕ) → Machine → ℕ → Type 0
HasRecords told m records = IfSome told (λ b. (s : FileState) × OpensTo b s × (records ≡ finite.len (result_of (contents_of s) m.order)))
