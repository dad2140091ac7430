-- What a step makes of the lines, of the order and of the answers: nothing; a line joins the order; one is answered outside of the
-- order; or one is answered whose place is settled.
use Rattle.hb_steps.proofs.Facts.Names.{◌≡◌, ◌⊎◌, inl, inr, ℕ, ◌==◌, Bool, cond, [], ◌∷◌, ◌++◌, Option, Some, None, IfSome, refl, sym, ap, ◌∙◌, subst, cases_Bool, Reply, Line, Activity, Outcome, Deed, Waits, Machine, Performs, given_by, outcome_of, StepsTo, Works, next_line, Entry, StoreState, option_to_list}
use Rattle.std.proofs.Common.{length}
use Rattle.hb_set.specs.declared.commands.Reply.TheVariants as replies
use Rattle.hb_activity.specs.declared.activities.Activity.TheVariants as at
use Rattle.hb_steps.specs.declared.outcomes.Outcome.TheVariants as outcomes
use Rattle.hb_activity.specs.Classes.{line_in_hand}
use Rattle.hb_activity.specs.Deeds.{Answers, Says}
use Rattle.hb_steps.proofs.Table.LineFates.{LineFate, fate_given_up, fate_row, idle_never, merge_waits_never, post_waits_never}
use Rattle.hb_steps.proofs.Facts.StepKinds.{each_step, ready_kind}
use Rattle.hb_steps.proofs.Orders.Sequences.{waits_none}
use Rattle.hb_steps.proofs.Facts.Ways.{KeepsAllButDisk, same_answers, same_order, forces_so, meets_so, more_so, stays_so}
use Rattle.hb_steps.specs.KeptOrder.{StandsOutside}
use Rattle.hb_steps.specs.KeptSequence.{LinesInSequence, awaited_number}

-- who waits for a place waited for it before
abbrev pub AwaitsAsBefore : Machine → Machine → Type 0
AwaitsAsBefore m new = (other number place : ℕ) (reply : Reply) → new.activity other ≡ at.SessionAwait number reply place → m.activity other ≡ at.SessionAwait number reply place

-- The session's next line, for whose place it doesn't wait yet, joins the order with a reply of the order.
pub record LineJoins (m : Machine) (actor : ℕ) (new : Machine) : Type 0 where
  pub line : Line
  pub reply : Reply
  pub next : next_line actor m.answered m.lines ≡ Some line
  pub none_awaited : awaited_number (m.activity actor) ≡ None
  pub inside : ¬ (StandsOutside reply)
  pub order : new.order ≡ m.order ++ record { line = line; reply = reply } ∷ []
  pub answered : new.answered ≡ m.answered
  pub awaits : (other number place : ℕ) (said : Reply) → new.activity other ≡ at.SessionAwait number said place → (m.activity other ≡ at.SessionAwait number said place) ⊎ (reply ≡ said)

-- It is answered outside of the order.
pub record LineAnswered (m : Machine) (actor : ℕ) (new : Machine) : Type 0 where
  pub line : Line
  pub reply : Reply
  pub next : next_line actor m.answered m.lines ≡ Some line
  pub none_awaited : awaited_number (m.activity actor) ≡ None
  pub outside : StandsOutside reply
  pub order : new.order ≡ m.order
  pub answered : new.answered ≡ m.answered ++ record { line = line.number; reply = reply; at = m.clock } ∷ []
  pub awaits : AwaitsAsBefore m new

-- The line is answered for whose place the session waited.
pub record PlaceSettled (m : Machine) (actor : ℕ) (new : Machine) : Type 0 where
  pub number : ℕ
  pub reply : Reply
  pub place : ℕ
  pub waited : m.activity actor ≡ at.SessionAwait number reply place
  pub order : new.order ≡ m.order
  pub answered : new.answered ≡ m.answered ++ record { line = number; reply = reply; at = m.clock } ∷ []
  pub awaits : AwaitsAsBefore m new

pub record LinesStay (m new : Machine) : Type 0 where
  pub order : new.order ≡ m.order
  pub answered : new.answered ≡ m.answered
  pub awaits : AwaitsAsBefore m new

abbrev pub LinesAfter : Machine → ℕ → Machine → Type 0
LinesAfter m actor new = LinesStay m new ⊎ LineJoins m actor new ⊎ LineAnswered m actor new ⊎ PlaceSettled m actor new

module _ (m : Machine) (actor : ℕ) (outcome : Outcome) (new : Machine) (sequence : LinesInSequence m) where
  stays : KeepsAllButDisk m new → LinesAfter m actor new
  stays keeps = inl (record { order = keeps.order; answered = keeps.answered; awaits = λ other number place reply is. sym (ap (λ (f : ℕ → Activity). f other) keeps.activity) ∙ is })

  -- whoever waits after a deed waited before, or is the actor, which waits as the deed says
  waited : (fetched : StoreState) (deed : Deed) → Performs m fetched actor deed outcome new → (other number place : ℕ) (reply : Reply) → new.activity other ≡ at.SessionAwait number reply place → (m.activity other ≡ at.SessionAwait number reply place) ⊎ (deed.next ≡ at.SessionAwait number reply place)
  waited fetched deed performs other number place reply is = elim (cases_Bool (other == actor)) [
    | inl here ↦ inr (sym (performs.activity other ∙ ap (λ (b : Bool). cond b deed.next (m.activity other)) here) ∙ is)
    | inr off ↦ inl (sym (performs.activity other ∙ ap (λ (b : Bool). cond b deed.next (m.activity other)) off) ∙ is)
  ]

  as_before : (fetched : StoreState) (deed : Deed) → Performs m fetched actor deed outcome new → (Waits deed.next → ⊥) → AwaitsAsBefore m new
  as_before fetched deed performs none other number place reply is = elim (waited fetched deed performs other number place reply is) [
    | inl before ↦ before
    | inr now ↦ absurd (none (subst Waits (sym now) tt))
  ]

  one_answer : (fetched : StoreState) (deed : Deed) (number : ℕ) (reply : Reply) → Performs m fetched actor deed outcome new → deed.says ≡ Answers number reply → new.answered ≡ m.answered ++ record { line = number; reply = reply; at = m.clock } ∷ []
  one_answer fetched deed number reply performs says = performs.answered ∙ ap (λ (o : Says). m.answered ++ given_by (outcome_of o) m.clock) says

  quiet : (fetched : StoreState) (deed : Deed) → given_by (outcome_of deed.says) m.clock ≡ [] → deed.joins ≡ None → (Waits deed.next → ⊥) → Performs m fetched actor deed outcome new → LinesAfter m actor new
  quiet fetched deed says joins none performs = inl (record { order = same_order m actor outcome new fetched deed performs joins; answered = same_answers m actor outcome new fetched deed performs says; awaits = as_before fetched deed performs none })

  hand_is_next : (line : Line) → line_in_hand (m.activity actor) ≡ Some line → next_line actor m.answered m.lines ≡ Some line
  hand_is_next line is = subst (λ (o : Option Line). IfSome o (λ (l : Line). next_line actor m.answered m.lines ≡ Some l)) is (sequence.in_hand actor)

  joins_or : (fetched : StoreState) (deed : Deed) (line : Line) (said : Reply) (place : ℕ) → Performs m fetched actor deed outcome new → deed.next ≡ at.SessionAwait line.number said place
      → (other number elsewhere : ℕ) (reply : Reply) → new.activity other ≡ at.SessionAwait number reply elsewhere → (m.activity other ≡ at.SessionAwait number reply elsewhere) ⊎ (said ≡ reply)
  joins_or fetched deed line said place performs next other number elsewhere reply is = elim (waited fetched deed performs other number elsewhere reply is) [
    | inl before ↦ inl before
    | inr now ↦ inr (same_reply line.number number place elsewhere said reply (sym next ∙ now))
  ]
    where
      same_reply : (a b p q : ℕ) (r s : Reply) → at.SessionAwait a r p ≡ at.SessionAwait b s q → r ≡ s
      same_reply a b p q r s is = cc

  fated : (fetched : StoreState) (deed : Deed) → awaited_number (m.activity actor) ≡ None → LineFate m (m.activity actor) deed → Performs m fetched actor deed outcome new → LinesAfter m actor new
  fated fetched deed none (inl goes) performs = quiet fetched deed (goes.quiet m.clock) goes.joins goes.awaits performs
  fated fetched deed none (inr (inl takes)) performs = inr (inl (record {
    line = takes.line;
    reply = takes.reply;
    next = hand_is_next takes.line takes.hand;
    none_awaited = none;
    inside = takes.inside;
    order = performs.order ∙ ap (λ (o : Option Entry). m.order ++ option_to_list o) takes.joins;
    answered = same_answers m actor outcome new fetched deed performs (takes.quiet m.clock);
    awaits = joins_or fetched deed takes.line takes.reply (length m.order) performs takes.next;
  }))
  fated fetched deed none (inr (inr gives)) performs = inr (inr (inl (record {
    line = gives.line;
    reply = gives.reply;
    next = hand_is_next gives.line gives.hand;
    none_awaited = none;
    outside = gives.outside;
    order = same_order m actor outcome new fetched deed performs gives.joins;
    answered = one_answer fetched deed gives.line.number gives.reply performs gives.says;
    awaits = as_before fetched deed performs (idle_never deed gives.next);
  })))

  worked : awaited_number (m.activity actor) ≡ None → Works m actor outcome new → LinesAfter m actor new
  worked none (inl (by, way, so)) = stays (stays_so m actor outcome new (outcomes.Blocked by) so)
  worked none (inr (inl (free, unready, inl (waits, force)))) = stays (forces_so m actor outcome new outcomes.Helped force)
  worked none (inr (inl (free, unready, inr (no_group, rest)))) =
      ready_kind m outcome new (LinesAfter m actor new) no_group (λ more. stays (more_so m actor outcome new more)) rest
  worked none (inr (inr (free, ready, inl acts))) = fated acts.fetched acts.deed none (fate_row m acts.fetched (m.activity actor) _ acts.deed acts.row) acts.performs
  worked none (inr (inr (free, ready, inr (inl gives)))) = fated gives.fetched _ none (fate_given_up m gives.why (m.activity actor)) gives.performs
  worked none (inr (inr (free, ready, inr (inr meets)))) = stays (meets_so m actor outcome new meets)

  pub lines_after : StepsTo m actor outcome new → LinesAfter m actor new
  lines_after step = each_step m actor outcome new (LinesAfter m actor new) (record {
    stays = λ said plain so. stays (stays_so m actor outcome new said so);
    forces = λ said silent force. stays (forces_so m actor outcome new said force);
    more = λ more. stays (more_so m actor outcome new more);
    takes = λ line idle next performs. quiet m.store _ refl refl (λ never. never) performs;
    refuses = λ line idle next boxes performs. inr (inr (inl (record {
      line = line;
      reply = replies.NoMemory;
      next = next;
      none_awaited = ap awaited_number idle;
      outside = tt;
      order = same_order m actor outcome new m.store _ performs refl;
      answered = one_answer m.store _ line.number replies.NoMemory performs refl;
      awaits = as_before m.store _ performs (λ never. never);
    })));
    posts = λ deed idle takes performs. quiet m.store deed (ap (λ (d : Deed). given_by (outcome_of d.says) m.clock) takes.deed_is) (ap (λ (d : Deed). d.joins) takes.deed_is) (post_waits_never m deed takes) performs;
    merges = λ deed idle takes performs. quiet m.store deed (ap (λ (d : Deed). given_by (outcome_of d.says) m.clock) takes.deed_is) (ap (λ (d : Deed). d.joins) takes.deed_is) (merge_waits_never m deed takes) performs;
    settles = λ number place reply is settled performs. inr (inr (inr (record {
      number = number;
      reply = reply;
      place = place;
      waited = is;
      order = same_order m actor outcome new m.store _ performs refl;
      answered = one_answer m.store _ number reply performs refl;
      awaits = as_before m.store _ performs (λ never. never);
    })));
    works = λ none works. worked (waits_none (m.activity actor) none) works;
  }) step
