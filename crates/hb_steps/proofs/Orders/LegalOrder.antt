-- After a step the order is legal, and the file has its result.
use Rattle.hb_steps.proofs.Orders.Names.{◌≡◌, ◌≢◌, ◌⊎◌, inl, inr, ℕ, ◌<◌, ◌≤◌, true, List, [], ◌∷◌, ◌++◌, All, Option, Some, IfSome, sym, ap, ◌∙◌, subst, arith, false≢true, All-head, All-tail, Command, Insert, Delete, Lookup, Search, Line, Activity, line_in_hand, next_is, same_line, ContentsFollowOrder, ContentsStep, contents_now, HasLegalOrder, IsInSequence, LinesInSequence, awaited_number, Files, Machine, is_answered, next_line, WantsBoxes, RecordSet, reply_of, set_after, Entry, IsLegalOrder, result_of}
use Rattle.std.specs.List.{AllByRecursion}
use Rattle.std.proofs.lemmas.Bool.{cases_lt}
use Rattle.hb_activity.specs.declared.activities.Activity.TheVariants as at
use Rattle.hb_steps.specs.OrderLaws.{OrderStaysLegal, SearchesAreRight}
use Rattle.hb_set.specs.Order.{AreReplies, KeepsSessions, MayPrecede}
use Rattle.hb_set.proofs.Facts.OrderLaws.{result_of-append}

-- ---- one entry more

replies_more : (n : RecordSet) (order : List Entry) (entry : Entry) → AreReplies n order → entry.reply ≡ reply_of entry.line.command (result_of n order) → AreReplies n (order ++ entry ∷ [])
replies_more n [] entry are is = (is, tt)
replies_more n (first ∷ order) entry are is = (are.0, replies_more (set_after first.line.command n) order entry are.1 is)

behind_more : (first entry : Entry) (order : List Entry) → AllByRecursion (MayPrecede first) order → MayPrecede first entry → AllByRecursion (MayPrecede first) (order ++ entry ∷ [])
behind_more first entry [] all may = (may, tt)
behind_more first entry (next ∷ order) all may = (all.0, behind_more first entry order all.1 may)

sessions_more : (order : List Entry) (entry : Entry) → KeepsSessions order → All (λ e. MayPrecede e entry) order → KeepsSessions (order ++ entry ∷ [])
sessions_more [] entry keeps may = (tt, tt)
sessions_more (first ∷ order) entry keeps may =
    (behind_more first entry order keeps.0 (All-head (λ e. MayPrecede e entry) first order may), sessions_more order entry keeps.1 (All-tail (λ e. MayPrecede e entry) first order may))

-- ---- the line that joins comes after those of its session

hand_waits_not : (activity : Activity) (line : Line) (number : ℕ) → line_in_hand activity ≡ Some line → awaited_number activity ≡ Some number → ⊥
hand_waits_not (at.SessionAwait wait reply place) line number hand waits = cc
hand_waits_not activity line number hand waits = cc

module _ (m : Machine) (sequence : LinesInSequence m) (actor : ℕ) (entry : Entry) (hand : line_in_hand (m.activity actor) ≡ Some entry.line) where
  next : next_line actor m.answered m.lines ≡ Some entry.line
  next = subst (λ (o : Option Line). IfSome o (λ line. next_line actor m.answered m.lines ≡ Some line)) hand (sequence.in_hand actor)

  -- an entry of the order, of the actor's session, was answered
  was_answered : (e : Entry) → IsInSequence m e → e.line.session ≡ actor → is_answered e.line.number m.answered ≡ true
  was_answered e one own = by one.state
    where
      by : (is_answered e.line.number m.answered ≡ true) ⊎ (awaited_number (m.activity e.line.session) ≡ Some e.line.number) → is_answered e.line.number m.answered ≡ true
      by (inl done) = done
      by (inr waits) = absurd (hand_waits_not (m.activity actor) entry.line e.line.number hand (ap (λ (n : ℕ). awaited_number (m.activity n)) (sym own) ∙ waits))

  not_same : (e : Entry) → IsInSequence m e → e.line.number ≢ entry.line.number
  not_same e one same =
      let own = next_is actor m.answered m.lines entry.line next in
      let line : e.line ≡ entry.line = same_line m.lines e.line entry.line sequence.rising one.among own.among same in
      let done = was_answered e one (ap (λ (l : Line). l.session) line ∙ own.own) in
      false≢true (sym own.open_yet ∙ ap (λ (n : ℕ). is_answered n m.answered) (sym same) ∙ done)

  may_precede : (e : Entry) → IsInSequence m e → MayPrecede e entry
  may_precede e one = record {
    other_line = not_same e one;
    session_order = λ same. elim (cases_lt e.line.number entry.line.number) [
      | inl less ↦ less
      | inr more ↦
          let own = next_is actor m.answered m.lines entry.line next in
          let above : entry.line.number < e.line.number = below entry.line.number e.line.number more (λ number. not_same e one (sym number)) in
          let done = was_answered e one (same ∙ own.own) in
          let early = sequence.earlier_first entry.line e.line own.among one.among (sym same) above done in
          absurd (false≢true (sym own.open_yet ∙ early))
    ];
  }
    where
      below : (a b : ℕ) → a ≤ b → a ≢ b → a < b
      below a b le ne = elim (cases_lt a b) [ inl lt ↦ lt | inr ge ↦ absurd (ne (omega (arith, le, ge))) ]

-- ---- each step

search_or_not : (command : Command) → WantsBoxes command ⊎ (WantsBoxes command → ⊥)
search_or_not (Insert rec) = inr (λ never. never)
search_or_not (Delete point) = inr (λ never. never)
search_or_not (Lookup point) = inr (λ never. never)
search_or_not (Search area) = inl tt

-- where a search takes effect, its reply is the machine's
abbrev IsRight : Machine → Machine → Files → Type 0
IsRight m new files = (entry : Entry) → new.order ≡ m.order ++ entry ∷ [] → WantsBoxes entry.line.command → entry.reply ≡ reply_of entry.line.command (contents_now files)

module _ (n : RecordSet) (m : Machine) (files after : Files) (actor : ℕ) (new : Machine) (sequence : LinesInSequence m) (legal : HasLegalOrder n m files) (right : IsRight m new files) where
  still_legal : ContentsStep m actor new (contents_now files) (contents_now after) → IsLegalOrder n new.order × (result_of n new.order ≡ contents_now after)
  still_legal (inl (order, same)) = (subst (IsLegalOrder n) (sym order) legal.legal, ap (result_of n) order ∙ legal.result ∙ sym same)
  still_legal (inr (entry, order, takes)) =
      let machine : entry.reply ≡ reply_of entry.line.command (contents_now files) = elim (search_or_not entry.line.command) [ inl search ↦ right entry order search | inr other ↦ takes.reply other ] in
      let reply : entry.reply ≡ reply_of entry.line.command (result_of n m.order) = machine ∙ ap (reply_of entry.line.command) (sym legal.result) in (
        subst (IsLegalOrder n) (sym order) (record {
          replies = replies_more n m.order entry legal.legal.replies reply;
          sessions = sessions_more m.order entry legal.legal.sessions (λ i d lt. may_precede m sequence actor entry takes.hand _ (sequence.placed i d lt));
        }),
        ap (result_of n) order ∙ result_of-append n m.order (entry ∷ []) ∙ ap (set_after entry.line.command) legal.result ∙ sym takes.leaves,
      )

pub order_stays_legal : ContentsFollowOrder → SearchesAreRight → OrderStaysLegal
order_stays_legal law searches n m files after actor outcome new told kept has exact legal step is =
    let right : IsRight m new files = λ entry joins wants. searches m files actor outcome new entry told kept has exact step joins wants in
    let both = still_legal n m files after actor new kept.lines_in_sequence legal right (law m files after actor outcome new told kept.lines_fit kept.pages_of_file has step is) in
    record { legal = both.0; result = both.1 }
