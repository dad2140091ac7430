-- After a step each session still answers its lines in their order.
use Rattle.hb_steps.proofs.Orders.Names.{◌≡◌, ◌≢◌, ◌⊎◌, inl, inr, ℕ, ◌<◌, ◌==◌, Bool, true, cond, List, [], ◌∷◌, ◌++◌, All, Option, Some, None, IfSome, refl, sym, ap, ◌∙◌, subst, Contains, IsSomeAnd, option_to_list, cases_Bool, eqb-true, eqb-false, All-append, All-cons, All-nil, none-some, Reply, Answered, Line, Activity, Outcome, line_in_hand, Deed, Answers, Says, IsMergingOf, LineFate, fate_given_up, fate_row, Waits, IsNextOf, next_is, same_line, each_step, ready_kind, KeepsAllButDisk, forces_so, meets_so, stays_so, more_so, LinesInSequence, awaited_number, Machine, Performs, given_by, outcome_of, TakesMerging, TakesJob, Works, is_answered, next_line, IsPostingOf, Entry, StoreState}
use Rattle.std.proofs.Common.{ne_eqb}
use Rattle.std.proofs.lemmas.Bool.{eq-eqb}
use Rattle.hb_activity.specs.declared.activities.Activity.TheVariants as at
use Rattle.hb_steps.specs.declared.outcomes.Outcome.TheVariants as outcomes
use Rattle.hb_steps.proofs.Orders.LinesFit.{took_job, took_merging}
use Rattle.hb_steps.proofs.Facts.NextLines.{answered_before, earlier_answered, next_stays, now_answered, still_answered}
use Rattle.hb_steps.proofs.Facts.Ways.{same_answers, same_order}
use Rattle.hb_steps.specs.Machines.{with_activity}
use Rattle.hb_steps.specs.OrderLaws.{SequenceStays}
use Rattle.hb_set.specs.Order.{AreRising}
use Rattle.hb_lemmas.proofs.Options.{at_value, value_and}

pub waits_none : (activity : Activity) → (Waits activity → ⊥) → awaited_number activity ≡ None
waits_none (at.SessionAwait number reply place) none = absurd (none tt)
waits_none activity none = refl

-- The same of lines, answers, activities and an order by themselves.
pub record IsSequenceEntry (lines : List Line) (answered : List Answered) (activity : ℕ → Activity) (entry : Entry) : Type 0 where
  pub among : Contains lines entry.line
  pub state : (is_answered entry.line.number answered ≡ true) ⊎ (awaited_number (activity entry.line.session) ≡ Some entry.line.number)

abbrev pub HandIsNext : ℕ → List Answered → List Line → Activity → Type 0
HandIsNext actor answered lines activity = IfSome (line_in_hand activity) (λ line. next_line actor answered lines ≡ Some line)

abbrev pub AwaitIsNext : ℕ → List Answered → List Line → Activity → Type 0
AwaitIsNext actor answered lines activity = IfSome (awaited_number activity) (λ number. IsSomeAnd (next_line actor answered lines) (λ line. line.number ≡ number))

pub record SequenceOf (lines : List Line) (answered : List Answered) (activity : ℕ → Activity) (order : List Entry) : Type 0 where
  pub rising : AreRising lines
  pub in_hand : (actor : ℕ) → HandIsNext actor answered lines (activity actor)
  pub awaited : (actor : ℕ) → AwaitIsNext actor answered lines (activity actor)
  pub placed : All (IsSequenceEntry lines answered activity) order
  pub earlier_first : (first second : Line) → Contains lines first → Contains lines second → first.session ≡ second.session → first.number < second.number → is_answered second.number answered ≡ true → is_answered first.number answered ≡ true

pub sequence_of : (m : Machine) → LinesInSequence m → SequenceOf m.lines m.answered m.activity m.order
sequence_of m sequence = record {
  rising = sequence.rising;
  in_hand = sequence.in_hand;
  awaited = sequence.awaited;
  placed = λ i d lt. let one = sequence.placed i d lt in record { among = one.among; state = one.state };
  earlier_first = sequence.earlier_first;
}

pub lines_in_sequence : (m : Machine) → SequenceOf m.lines m.answered m.activity m.order → LinesInSequence m
lines_in_sequence m sequence = record {
  rising = sequence.rising;
  in_hand = sequence.in_hand;
  awaited = sequence.awaited;
  placed = λ i d lt. let one = sequence.placed i d lt in record { among = one.among; state = one.state };
  earlier_first = sequence.earlier_first;
}

module _ (lines : List Line) (answered : List Answered) (activity : ℕ → Activity) (order : List Entry) (sequence : SequenceOf lines answered activity order) (actor : ℕ) (next : Activity) where
  -- what holds of each actor's activity, where it holds of the new one
  each_actor : (P : ℕ → Activity → Type 0) → P actor next → ((other : ℕ) → other ≢ actor → P other (activity other)) → (other : ℕ) → P other (with_activity actor next activity other)
  each_actor P own others other = elim (cases_Bool (other == actor)) [
    | inl here ↦ subst (λ (n : ℕ). P n (with_activity actor next activity n)) (sym (eqb-true other actor here)) (subst (λ (b : Bool). P actor (cond b next (activity actor))) (sym (eq-eqb actor actor refl)) own)
    | inr off ↦ subst (λ (b : Bool). P other (cond b next (activity other))) (sym off) (others other (eqb-false other actor off))
  ]

  other_waits : (n number : ℕ) → n ≢ actor → awaited_number (activity n) ≡ Some number → awaited_number (with_activity actor next activity n) ≡ Some number
  other_waits n number apart waits = subst (λ (b : Bool). awaited_number (cond b next (activity n)) ≡ Some number) (sym (ne_eqb n actor apart)) waits

  -- nothing is answered, and the actor awaited nothing
  still_placed : awaited_number (activity actor) ≡ None → (entry : Entry) → IsSequenceEntry lines answered activity entry → IsSequenceEntry lines answered (with_activity actor next activity) entry
  still_placed none entry one = record { among = one.among; state = by one.state }
    where
      by : (is_answered entry.line.number answered ≡ true) ⊎ (awaited_number (activity entry.line.session) ≡ Some entry.line.number) → (is_answered entry.line.number answered ≡ true) ⊎ (awaited_number (with_activity actor next activity entry.line.session) ≡ Some entry.line.number)
      by (inl done) = inl done
      by (inr waits) = inr (other_waits entry.line.session entry.line.number (λ same. none-some entry.line.number (sym none ∙ ap (λ (n : ℕ). awaited_number (activity n)) (sym same) ∙ waits)) waits)

  pub goes_on : awaited_number (activity actor) ≡ None → HandIsNext actor answered lines next → AwaitIsNext actor answered lines next → SequenceOf lines answered (with_activity actor next activity) order
  goes_on none hand await = record {
    rising = sequence.rising;
    in_hand = each_actor (λ n a. HandIsNext n answered lines a) hand (λ other apart. sequence.in_hand other);
    awaited = each_actor (λ n a. AwaitIsNext n answered lines a) await (λ other apart. sequence.awaited other);
    placed = λ i d lt. still_placed none _ (sequence.placed i d lt);
    earlier_first = sequence.earlier_first;
  }

  -- the line in hand joins the order, and the actor waits for its place
  pub takes_place : (line : Line) (reply : Reply) → awaited_number (activity actor) ≡ None → next_line actor answered lines ≡ Some line → line_in_hand next ≡ None → awaited_number next ≡ Some line.number → SequenceOf lines answered (with_activity actor next activity) (order ++ record { line = line; reply = reply } ∷ [])
  takes_place line reply none is no_line waits =
      let own = next_is actor answered lines line is in
      let hand : HandIsNext actor answered lines next = subst (λ (o : Option Line). IfSome o (λ line. next_line actor answered lines ≡ Some line)) (sym no_line) tt in
      let await : AwaitIsNext actor answered lines next = subst (λ (o : Option ℕ). IfSome o (λ number. IsSomeAnd (next_line actor answered lines) (λ line. line.number ≡ number))) (sym waits) (subst (λ (o : Option Line). IsSomeAnd o (λ l. l.number ≡ line.number)) (sym is) refl) in
      let rest = goes_on none hand await in
      let entry : Entry = record { line = line; reply = reply } in
      let here : awaited_number (with_activity actor next activity actor) ≡ Some line.number = ap (λ (b : Bool). awaited_number (cond b next (activity actor))) (eq-eqb actor actor refl) ∙ waits in
      record {
        rising = rest.rising;
        in_hand = rest.in_hand;
        awaited = rest.awaited;
        placed = All-append (IsSequenceEntry lines answered (with_activity actor next activity)) order (entry ∷ []) rest.placed
            (All-cons (IsSequenceEntry lines answered (with_activity actor next activity)) entry [] (record {
              among = own.among;
              state = inr (ap (λ (n : ℕ). awaited_number (with_activity actor next activity n)) own.own ∙ here);
            }) (All-nil (IsSequenceEntry lines answered (with_activity actor next activity))));
        earlier_first = rest.earlier_first;
      }

  -- the actor's next line is answered
  module _ (line : Line) (a : Answered) (is : next_line actor answered lines ≡ Some line) (number : a.line ≡ line.number) (waits : awaited_number (activity actor) ≡ None ⊎ (awaited_number (activity actor) ≡ Some line.number)) where
    own : IsNextOf actor answered lines line
    own = next_is actor answered lines line is

    apart : (other : ℕ) → other ≢ actor → (l : Line) → Contains lines l → l.session ≡ other → a.line ≢ l.number
    apart other differ l there of_other same =
        let both : line ≡ l = same_line lines line l sequence.rising own.among there (sym number ∙ same) in
        differ (sym of_other ∙ sym (ap (λ (l : Line). l.session) both) ∙ own.own)

    other_next : (other : ℕ) → other ≢ actor → next_line other (answered ++ a ∷ []) lines ≡ next_line other answered lines
    other_next other differ = next_stays other answered a lines (apart other differ)

    placed_more : (entry : Entry) → IsSequenceEntry lines answered activity entry → IsSequenceEntry lines (answered ++ a ∷ []) (with_activity actor next activity) entry
    placed_more entry one = record { among = one.among; state = by one.state }
      where
        of_none : (e : Entry) → awaited_number (activity actor) ≡ None ⊎ (awaited_number (activity actor) ≡ Some line.number) → awaited_number (activity actor) ≡ Some e.line.number → line.number ≡ e.line.number
        of_none e (inl none) some = absurd (none-some e.line.number (sym none ∙ some))
        of_none e (inr here) some = let both : Some line.number ≡ Some e.line.number = sym here ∙ some in cc

        by : (is_answered entry.line.number answered ≡ true) ⊎ (awaited_number (activity entry.line.session) ≡ Some entry.line.number)
            → (is_answered entry.line.number (answered ++ a ∷ []) ≡ true) ⊎ (awaited_number (with_activity actor next activity entry.line.session) ≡ Some entry.line.number)
        by (inl done) = inl (still_answered entry.line.number answered a done)
        by (inr waiting) = elim (cases_Bool (entry.line.session == actor)) [
          | inl here ↦ inl (now_answered entry.line.number answered a (number ∙ of_none entry waits (ap (λ (n : ℕ). awaited_number (activity n)) (sym (eqb-true entry.line.session actor here)) ∙ waiting)))
          | inr off ↦ inr (other_waits entry.line.session entry.line.number (eqb-false entry.line.session actor off) waiting)
        ]

    earlier_more : (first second : Line) → Contains lines first → Contains lines second → first.session ≡ second.session → first.number < second.number → is_answered second.number (answered ++ a ∷ []) ≡ true → is_answered first.number (answered ++ a ∷ []) ≡ true
    earlier_more first second there among same less done = still_answered first.number answered a (by (answered_before second.number answered a done))
      where
        by : (is_answered second.number answered ≡ true) ⊎ (a.line ≡ second.number) → is_answered first.number answered ≡ true
        by (inl before) = sequence.earlier_first first second there among same less before
        by (inr now) =
            let both : line ≡ second = same_line lines line second sequence.rising own.among among (sym number ∙ now) in
            let session : first.session ≡ actor = same ∙ sym (ap (λ (l : Line). l.session) both) ∙ own.own in
            earlier_answered actor answered lines line first sequence.rising is there session (subst (λ (l : Line). first.number < l.number) (sym both) less)

    pub answers_next : line_in_hand next ≡ None → awaited_number next ≡ None → SequenceOf lines (answered ++ a ∷ []) (with_activity actor next activity) order
    answers_next no_line no_wait = record {
      rising = sequence.rising;
      in_hand = each_actor (λ n l. HandIsNext n (answered ++ a ∷ []) lines l) (subst (λ (o : Option Line). IfSome o (λ line. next_line actor (answered ++ a ∷ []) lines ≡ Some line)) (sym no_line) tt)
          (λ other differ. subst (λ (o : Option Line). IfSome (line_in_hand (activity other)) (λ line. o ≡ Some line)) (sym (other_next other differ)) (sequence.in_hand other));
      awaited = each_actor (λ n l. AwaitIsNext n (answered ++ a ∷ []) lines l) (subst (λ (o : Option ℕ). IfSome o (λ number. IsSomeAnd (next_line actor (answered ++ a ∷ []) lines) (λ line. line.number ≡ number))) (sym no_wait) tt)
          (λ other differ. subst (λ (o : Option Line). IfSome (awaited_number (activity other)) (λ number. IsSomeAnd o (λ line. line.number ≡ number))) (sym (other_next other differ)) (sequence.awaited other));
      placed = λ i d lt. placed_more _ (sequence.placed i d lt);
      earlier_first = earlier_more;
    }

-- ---- steps

module _ (m : Machine) (actor : ℕ) (outcome : Outcome) (new : Machine) (sequence : LinesInSequence m) where
  stays : KeepsAllButDisk m new → LinesInSequence new
  stays keeps = lines_in_sequence new
      (subst (λ (l : List Line). SequenceOf l new.answered new.activity new.order) (sym keeps.lines)
      (subst (λ (l : List Answered). SequenceOf m.lines l new.activity new.order) (sym keeps.answered)
      (subst (λ (f : ℕ → Activity). SequenceOf m.lines m.answered f new.order) (sym keeps.activity)
      (subst (λ (l : List Entry). SequenceOf m.lines m.answered m.activity l) (sym keeps.order) (sequence_of m sequence)))))

  -- a deed, by what it makes of answers, activities and order
  done : (fetched : StoreState) (deed : Deed) (answered : List Answered) (order : List Entry) → Performs m fetched actor deed outcome new → new.answered ≡ answered → new.order ≡ order → SequenceOf m.lines answered (with_activity actor deed.next m.activity) order → LinesInSequence new
  done fetched deed answered order performs answered_is order_is after = lines_in_sequence new
      (subst (λ (l : List Line). SequenceOf l new.answered new.activity new.order) (sym performs.lines)
      (subst (λ (l : List Answered). SequenceOf m.lines l new.activity new.order) (sym answered_is)
      (subst (λ (f : ℕ → Activity). SequenceOf m.lines answered f new.order) (sym (λ i other. performs.activity other i))
      (subst (λ (l : List Entry). SequenceOf m.lines answered (with_activity actor deed.next m.activity) l) (sym order_is) after))))

  no_hand : (deed : Deed) → line_in_hand deed.next ≡ None → HandIsNext actor m.answered m.lines deed.next
  no_hand deed none = subst (λ (o : Option Line). IfSome o (λ line. next_line actor m.answered m.lines ≡ Some line)) (sym none) tt

  no_await : (deed : Deed) → awaited_number deed.next ≡ None → AwaitIsNext actor m.answered m.lines deed.next
  no_await deed none = subst (λ (o : Option ℕ). IfSome o (λ number. IsSomeAnd (next_line actor m.answered m.lines) (λ line. line.number ≡ number))) (sym none) tt

  quiet : (fetched : StoreState) (deed : Deed) → awaited_number (m.activity actor) ≡ None → given_by (outcome_of deed.says) m.clock ≡ [] → deed.joins ≡ None → HandIsNext actor m.answered m.lines deed.next → awaited_number deed.next ≡ None → Performs m fetched actor deed outcome new → LinesInSequence new
  quiet fetched deed idle says joins hand waits performs =
      done fetched deed m.answered m.order performs (same_answers m actor outcome new fetched deed performs says) (same_order m actor outcome new fetched deed performs joins) (goes_on m.lines m.answered m.activity m.order (sequence_of m sequence) actor deed.next idle hand (no_await deed waits))

  -- a line is answered, and its session is idle then
  answers : (fetched : StoreState) (deed : Deed) (line : Line) (number : ℕ) (reply : Reply) → deed.says ≡ Answers number reply → deed.joins ≡ None → deed.next ≡ at.SessionIdle → number ≡ line.number → next_line actor m.answered m.lines ≡ Some line
      → awaited_number (m.activity actor) ≡ None ⊎ (awaited_number (m.activity actor) ≡ Some line.number) → Performs m fetched actor deed outcome new → LinesInSequence new
  answers fetched deed line number reply says joins next same is waits performs =
      let a : Answered = record { line = number; reply = reply; at = m.clock } in
      done fetched deed (m.answered ++ a ∷ []) m.order performs (performs.answered ∙ ap (λ (o : Says). m.answered ++ given_by (outcome_of o) m.clock) says) (same_order m actor outcome new fetched deed performs joins)
      (answers_next m.lines m.answered m.activity m.order (sequence_of m sequence) actor deed.next line a is same waits (ap line_in_hand next) (ap awaited_number next))

  fated : (fetched : StoreState) (deed : Deed) → awaited_number (m.activity actor) ≡ None → LineFate m (m.activity actor) deed → Performs m fetched actor deed outcome new → LinesInSequence new
  fated fetched deed idle (inl goes) performs =
      quiet fetched deed idle (goes.quiet m.clock) goes.joins (subst (λ (o : Option Line). IfSome o (λ line. next_line actor m.answered m.lines ≡ Some line)) (sym goes.hand) (sequence.in_hand actor)) (waits_none deed.next goes.awaits) performs
  fated fetched deed idle (inr (inl takes)) performs =
      let is : next_line actor m.answered m.lines ≡ Some takes.line = at_value (line_in_hand (m.activity actor)) (λ line. next_line actor m.answered m.lines ≡ Some line) takes.line takes.hand (sequence.in_hand actor) in
      done fetched deed m.answered (m.order ++ record { line = takes.line; reply = takes.reply } ∷ []) performs (same_answers m actor outcome new fetched deed performs (takes.quiet m.clock)) (performs.order ∙ ap (λ (o : Option Entry). m.order ++ option_to_list o) takes.joins)
      (takes_place m.lines m.answered m.activity m.order (sequence_of m sequence) actor deed.next takes.line takes.reply idle is (ap line_in_hand takes.next) (ap awaited_number takes.next))
  fated fetched deed idle (inr (inr gives)) performs =
      let is : next_line actor m.answered m.lines ≡ Some gives.line = at_value (line_in_hand (m.activity actor)) (λ line. next_line actor m.answered m.lines ≡ Some line) gives.line gives.hand (sequence.in_hand actor) in
      answers fetched deed gives.line gives.line.number gives.reply gives.says gives.joins gives.next refl is (inl idle) performs

  worked : awaited_number (m.activity actor) ≡ None → Works m actor outcome new → LinesInSequence new
  worked idle (inl (by, way, so)) = stays (stays_so m actor outcome new (outcomes.Blocked by) so)
  worked idle (inr (inl (free, unready, inl (waits, force)))) = stays (forces_so m actor outcome new outcomes.Helped force)
  worked idle (inr (inl (free, unready, inr (none, rest)))) =
      ready_kind m outcome new (LinesInSequence new) none (λ more. stays (more_so m actor outcome new more)) rest
  worked idle (inr (inr (free, ready, inl acts))) = fated acts.fetched acts.deed idle (fate_row m acts.fetched (m.activity actor) _ acts.deed acts.row) acts.performs
  worked idle (inr (inr (free, ready, inr (inl gives)))) = fated gives.fetched _ idle (fate_given_up m gives.why (m.activity actor)) gives.performs
  worked idle (inr (inr (free, ready, inr (inr meets)))) = stays (meets_so m actor outcome new meets)

  posts_await_none : (deed : Deed) → TakesJob m deed → awaited_number deed.next ≡ None
  posts_await_none deed takes = ap (λ (d : Deed). awaited_number d.next) takes.deed_is ∙ by takes.next takes.posting
    where
      by : (next : Activity) → IsPostingOf takes.job m.store.meta.height next → awaited_number next ≡ None
      by next (inl (above, is)) = ap awaited_number is
      by next (inr (inl (same, is))) = ap awaited_number is
      by next (inr (inr (below, is))) = ap awaited_number is

  merges_await_none : (deed : Deed) → TakesMerging m deed → awaited_number deed.next ≡ None
  merges_await_none deed takes = ap (λ (d : Deed). awaited_number d.next) takes.deed_is ∙ by takes.next takes.merging
    where
      by : (next : Activity) → IsMergingOf takes.job m.store.meta.height next → awaited_number next ≡ None
      by next (inl (above, is)) = ap awaited_number is
      by next (inr (below, is)) = ap awaited_number is

pub sequence_stays : SequenceStays
sequence_stays m actor outcome new sequence step = each_step m actor outcome new (LinesInSequence new) (record {
  stays = λ said plain so. stays m actor outcome new sequence (stays_so m actor outcome new said so);
  forces = λ said silent force. stays m actor outcome new sequence (forces_so m actor outcome new said force);
  more = λ more. stays m actor outcome new sequence (more_so m actor outcome new more);
  takes = λ line idle next performs. quiet m actor outcome new sequence m.store _ (ap awaited_number idle) refl refl next refl performs;
  refuses = λ line idle next boxes performs. answers m actor outcome new sequence m.store _ line line.number _ refl refl refl refl next (inl (ap awaited_number idle)) performs;
  posts = λ deed idle takes performs.
      quiet m actor outcome new sequence m.store deed (ap awaited_number idle) (ap (λ (d : Deed). given_by (outcome_of d.says) m.clock) takes.deed_is) (ap (λ (d : Deed). d.joins) takes.deed_is)
      (no_hand m actor outcome new sequence deed (took_job m deed takes)) (posts_await_none m actor outcome new sequence deed takes) performs;
  merges = λ deed idle takes performs.
      quiet m actor outcome new sequence m.store deed (ap awaited_number idle) (ap (λ (d : Deed). given_by (outcome_of d.says) m.clock) takes.deed_is) (ap (λ (d : Deed). d.joins) takes.deed_is)
      (no_hand m actor outcome new sequence deed (took_merging m deed takes)) (merges_await_none m actor outcome new sequence deed takes) performs;
  settles = λ number place reply is settled performs.
      let one = value_and (next_line actor m.answered m.lines) (λ line. line.number ≡ number) (at_value (awaited_number (m.activity actor)) (λ number. IsSomeAnd (next_line actor m.answered m.lines) (λ line. line.number ≡ number)) number (ap awaited_number is) (sequence.awaited actor)) in
      answers m actor outcome new sequence m.store _ one.0 number reply refl refl refl (sym one.2) one.1 (inr (ap awaited_number is ∙ ap (λ (n : ℕ). Some n) (sym one.2))) performs;
  works = λ none works. worked m actor outcome new sequence (waits_none (m.activity actor) none) works;
}) step
