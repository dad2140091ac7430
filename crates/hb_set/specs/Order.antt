-- Legal orders of answered lines.
use Rattle.std.specs.Prelude.{◌≡◌, ◌≢◌, ℕ, ◌<◌, List, [], ◌∷◌, map}
use Rattle.std.specs.List.{AllByRecursion, fold}
use Rattle.hb_set.specs.declared.commands.Reply.{Reply}
use Rattle.hb_set.specs.declared.commands.Reply.TheVariants.{Full, NoMemory, ReadFault}
use Rattle.hb_set.specs.declared.scripts.Line.{Line}
use Rattle.hb_set.specs.declared.scripts.Answered.{Answered}
use Rattle.hb_set.specs.Machine.{RecordSet, reply_of, set_after, Answers, MayWantMemory}

-- a script line with the reply that it got
pub record Entry : Type 0 where
  pub line : Line
  pub reply : Reply

-- each reply is the machine's at its place
abbrev pub AreReplies : RecordSet → List Entry → Type 0
AreReplies m [] = Unit {0}
AreReplies m (e ∷ es) = (e.reply ≡ reply_of e.line.command m) × AreReplies (set_after e.line.command m) es

-- what the machine leaves in the end
abbrev pub result_of : RecordSet → List Entry → RecordSet
result_of m entries = fold (λ n entry. set_after entry.line.command n) m entries

-- its lines, and their numbers
abbrev pub order_lines : List Entry → List Line
order_lines es = map (λ e. e.line) es

abbrev pub order_of : List Entry → List ℕ
order_of es = map (λ e. e.line.number) es

-- one entry before another: another line, and a lower one where both are of one session
pub record MayPrecede (a b : Entry) : Type 0 where
  pub other_line : a.line.number ≢ b.line.number
  pub session_order : a.line.session ≡ b.line.session → a.line.number < b.line.number

abbrev pub KeepsSessions : List Entry → Type 0
KeepsSessions [] = Unit {0}
KeepsSessions (e ∷ es) = AllByRecursion (MayPrecede e) es × KeepsSessions es

-- The order is legal from the set: each reply is the machine's at that place, no line stands twice,
-- and the lines of each session stand in line order.
pub record IsLegalOrder (m : RecordSet) (es : List Entry) : Type 0 where
  pub replies : AreReplies m es
  pub sessions : KeepsSessions es

-- `full`, `no memory` and `read fault` stand outside the order
abbrev pub with_entry : Line → Reply → List Entry → List Entry
with_entry l Full es = es
with_entry l NoMemory es = es
with_entry l ReadFault es = es
with_entry l r es = record { line = l; reply = r } ∷ es

-- the entries of lines that were answered one after the other
abbrev pub entries_of : List Line → List Answered → List Entry
entries_of [] answered = []
entries_of (l ∷ ls) [] = []
entries_of (l ∷ ls) (a ∷ rest) = with_entry l a.reply (entries_of ls rest)

-- the line numbers rise strictly
abbrev pub IsAbove : Line → List Line → Type 0
IsAbove l ls = AllByRecursion (λ after. l.number < after.number) ls

abbrev pub AreRising : List Line → Type 0
AreRising [] = Unit {0}
AreRising (l ∷ ls) = IsAbove l ls × AreRising ls

-- an answer to a line, which leaves the set `next`
pub record IsAnswerTo (m : RecordSet) (l : Line) (a : Answered) (next : RecordSet) : Type 0 where
  pub number : a.line ≡ l.number
  pub untimed : a.at ≡ 0
  pub answers : Answers m l.command a.reply next
  pub wanted : a.reply ≡ NoMemory → MayWantMemory l.command m

-- The lines were answered in sequence, from the first set to the last one: by the machine, or for want of
-- memory not at all. The answer has the line's number, and no time.
abbrev pub Ran : RecordSet → List Line → List Answered → RecordSet → Type 0
Ran m [] [] n = n ≡ m
Ran m [] (a ∷ rest) n = ⊥
Ran m (l ∷ ls) [] n = ⊥
Ran m (l ∷ ls) (a ∷ rest) n = (next : RecordSet) × IsAnswerTo m l a next × Ran next ls rest n
