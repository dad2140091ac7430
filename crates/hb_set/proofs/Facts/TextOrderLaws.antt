-- What follows of lines that were answered in the order of the text, and of runs.
use Rattle.std.proofs.Common.{◌≡◌, suc, false, List, [], ◌∷◌, ◌++◌, refl, sym, ap, subst, ◌∙◌, arith}
use Rattle.std.specs.List.{AllByRecursion}
use Rattle.std.proofs.lemmas.Bool.{false≢true}
use Rattle.hb_set.specs.declared.commands.Reply.{Reply}
use Rattle.hb_set.specs.declared.commands.Reply.TheVariants.{Full, NoMemory, ReadFault}
use Rattle.hb_set.specs.declared.scripts.Line.{Line}
use Rattle.hb_set.specs.declared.scripts.Answered.{Answered}
use Rattle.hb_set.specs.Machine.{RecordSet, reply_of, Answers}
use Rattle.hb_set.proofs.Facts.MachineLaws.{is_replied, replied}
use Rattle.hb_set.specs.Laws.{TextKeepsSessions, EntriesGrow, RunsGrow, RunsReply, RunsAreLegal, RunsAnswerEach}
use Rattle.hb_set.specs.Order.{Entry, AreReplies, result_of, MayPrecede, KeepsSessions, with_entry, entries_of, IsAbove, IsAnswerTo}

-- lines answered in the order of the text
above_joined : (x : Entry) (l : Line) (r : Reply) (es : List Entry) → MayPrecede x (record { line = l; reply = r }) → AllByRecursion (MayPrecede x) es → AllByRecursion (MayPrecede x) (with_entry l r es)
above_joined x l Full es p h = h
above_joined x l NoMemory es p h = h
above_joined x l ReadFault es p h = h
above_joined x l r es p h = (p, h)

above_entries : (x : Entry) (ls : List Line) (answered : List Answered) → IsAbove x.line ls → AllByRecursion (MayPrecede x) (entries_of ls answered)
above_entries x [] answered h = tt
above_entries x (l ∷ ls) [] h = tt
above_entries x (l ∷ ls) (a ∷ rest) h = above_joined x l a.reply (entries_of ls rest) (record { other_line = λ same. omega (arith, h.0); session_order = λ _. h.0 }) (above_entries x ls rest h.1)

sessions_joined : (l : Line) (r : Reply) (es : List Entry) → ((x : Entry) → x.line ≡ l → AllByRecursion (MayPrecede x) es) → KeepsSessions es → KeepsSessions (with_entry l r es)
sessions_joined l Full es above h = h
sessions_joined l NoMemory es above h = h
sessions_joined l ReadFault es above h = h
sessions_joined l r es above h = (above (record { line = l; reply = r }) refl, h)

pub sessions_of_text : TextKeepsSessions
sessions_of_text [] answered h = tt
sessions_of_text (l ∷ ls) [] h = tt
sessions_of_text (l ∷ ls) (a ∷ rest) h = sessions_joined l a.reply (entries_of ls rest) (λ x is. above_entries x ls rest (subst (λ (k : Line). IsAbove k ls) (sym is) h.0)) (sessions_of_text ls rest h.1)

-- one more line at the end of the text
joined_append : (l : Line) (r : Reply) (es fs : List Entry) → with_entry l r (es ++ fs) ≡ with_entry l r es ++ fs
joined_append l Full es fs = refl
joined_append l NoMemory es fs = refl
joined_append l ReadFault es fs = refl
joined_append l r es fs = refl

pub entries_of-push : EntriesGrow
entries_of-push [] [] l a same = refl
entries_of-push [] (b ∷ rest) l a same = absurd (omega arith)
entries_of-push (k ∷ ls) [] l a same = absurd (omega arith)
entries_of-push (k ∷ ls) (b ∷ rest) l a same = ap (with_entry k b.reply) (entries_of-push ls rest l a (omega arith)) ∙ joined_append k b.reply (entries_of ls rest) (with_entry l a.reply [])

-- a run: it grows by one answer at its end
pub ran_grown : RunsGrow
ran_grown m [] [] n l a next ran answer = (next, subst (λ (k : RecordSet). IsAnswerTo k l a next) ran answer, refl)
ran_grown m [] (b ∷ rest) n l a next ran answer = absurd ran
ran_grown m (k ∷ ls) [] n l a next ran answer = absurd ran
ran_grown m (k ∷ ls) (b ∷ rest) n l a next ran answer = (ran.0, ran.1, ran_grown ran.0 ls rest n l a next ran.2 answer)

-- its entries have the machine's replies, and lead to its last set
refused : (c : _) (m : RecordSet) (r : Reply) → r ≡ reply_of c m → is_replied r ≡ false → ⊥
refused c m r is none = false≢true (sym none ∙ ap is_replied is ∙ replied c m)

joined_replies : (m : RecordSet) (l : Line) (r : Reply) (next : RecordSet) (es : List Entry) (n : RecordSet) → Answers m l.command r next → AreReplies next es × (result_of next es ≡ n) → AreReplies m (with_entry l r es) × (result_of m (with_entry l r es) ≡ n)
joined_replies m l Full next es n h rest = absurd (refused l.command m Full h.0 refl)
joined_replies m l NoMemory next es n h rest = subst (λ (k : RecordSet). AreReplies k es × (result_of k es ≡ n)) h rest
joined_replies m l ReadFault next es n h rest = absurd (refused l.command m ReadFault h.0 refl)
joined_replies m l r next es n h rest = ((h.0, subst (λ (k : RecordSet). AreReplies k es) h.1 rest.0), subst (λ (k : RecordSet). result_of k es ≡ n) h.1 rest.1)

pub ran_replies : RunsReply
ran_replies m [] [] n ran = (tt, sym ran)
ran_replies m [] (b ∷ rest) n ran = absurd ran
ran_replies m (k ∷ ls) [] n ran = absurd ran
ran_replies m (k ∷ ls) (b ∷ rest) n ran = joined_replies m k b.reply ran.0 (entries_of ls rest) n ran.1.answers (ran_replies ran.0 ls rest n ran.2)

-- and are a legal order, where the lines rise
pub ran_legal : RunsAreLegal
ran_legal m ls answered n ran rising = record { replies = (ran_replies m ls answered n ran).0; sessions = sessions_of_text ls answered rising }

-- a run has an answer for each line
pub ran_each : RunsAnswerEach
ran_each m [] [] n ran = refl
ran_each m [] (b ∷ rest) n ran = absurd ran
ran_each m (k ∷ ls) [] n ran = absurd ran
ran_each m (k ∷ ls) (b ∷ rest) n ran = ap suc (ran_each ran.0 ls rest n ran.2)
