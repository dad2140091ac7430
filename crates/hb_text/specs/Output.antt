-- The output text: replies, lines without an answer, and the order.
use Rattle.std.specs.Prelude.{ℕ, Bool, nat_lt, if◌then◌else◌, List, [], ◌∷◌, ◌++◌, length, take, drop, codes}
use Rattle.std.specs.List.{flat_map}
use Rattle.std.specs.Fmt.{decimal}
use Rattle.hb_space.specs.declared.records.Record.{Record}
use Rattle.hb_set.specs.declared.commands.Reply.{Reply}
use Rattle.hb_set.specs.declared.commands.Reply.TheVariants.{Done, Duplicate, Absent, Found, Missing, Within, Full, NoMemory, ReadFault}
use Rattle.hb_set.specs.declared.scripts.Answered.{Answered}
use Rattle.hb_text.specs.BodyText.{body_text}

-- numbers, each after a space
abbrev pub numbers_text : List ℕ → List ℕ
numbers_text ns = flat_map (λ n. 32 ∷ decimal n) ns

-- a record of a search's reply, in a line of its own
abbrev pub record_text : Record → List ℕ
record_text r = (43 ∷ numbers_text r.key) ++ codes " " ++ body_text r.body ++ codes "\n"

-- what follows the line's number
abbrev pub said_of : Reply → List ℕ
said_of Done = codes " ok\n"
said_of Duplicate = codes " duplicate\n"
said_of Absent = codes " absent\n"
said_of (Found body) = codes " found " ++ body_text body ++ codes "\n"
said_of Missing = codes " none\n"
said_of (Within records) = codes " box " ++ decimal (length records) ++ codes "\n" ++ flat_map record_text records
said_of Full = codes " full\n"
said_of NoMemory = codes " no memory\n"
said_of ReadFault = codes " read fault\n"

-- the lines of a reply
abbrev pub reply_text : ℕ → Reply → List ℕ
reply_text line reply = decimal line ++ said_of reply

abbrev pub answer_text : Answered → List ℕ
answer_text a = reply_text a.line a.reply

-- a line that has no answer, because the run was stopped or the schedule ended before it
abbrev pub left_text : Bool → ℕ → List ℕ
left_text stopped line = decimal line ++ (if stopped then codes " unanswered\n" else codes " unfinished\n")

-- the order, with a bar before the first line that isn't settled
abbrev pub order_text : List ℕ → ℕ → List ℕ
order_text order settled =
    codes "order" ++ numbers_text (take settled order)
    ++ (if nat_lt settled (length order) then codes " |" else []) ++ numbers_text (drop settled order) ++ codes "\n"

-- the answers in the order of answering, the lines without one, and the order
abbrev pub output_text : List Answered → List ℕ → Bool → List ℕ → ℕ → List ℕ
output_text answered left stopped order settled =
    flat_map answer_text answered ++ flat_map (left_text stopped) left ++ order_text order settled
