-- After a step each line that awaits its place, and each answered line of the order, stands there with its reply.
use Rattle.hb_steps.proofs.Orders.Names.{◌≡◌, inl, inr, ℕ, ◌==◌, Bool, cond, List, [], ◌∷◌, ◌++◌, length, get_or, All, Option, refl, sym, ap, ◌∙◌, subst, append-nil, cases_Bool, All-append, All-cons, All-nil, Reply, Answered, Activity, Outcome, Deed, Answers, Says, LineFate, fate_given_up, fate_row, Waits, each_step, ready_kind, KeepsAllButDisk, forces_so, meets_so, stays_so, more_so, StandsInOrder, StandsSomewhere, RepliesStand, Machine, Performs, given_by, outcome_of, StepsTo, Works, Entry, StoreState, stands_longer, option_to_list}
use Rattle.std.specs.List.{slice_get}
use Rattle.hb_set.specs.declared.commands.Reply.TheVariants as replies
use Rattle.hb_activity.specs.declared.activities.Activity.TheVariants as at
use Rattle.hb_steps.specs.declared.outcomes.Outcome.TheVariants as outcomes
use Rattle.hb_steps.proofs.Table.LineFates.{idle_never, merge_waits_never, post_waits_never}
use Rattle.hb_lemmas.proofs.Lists.{get-push_last}

module _ (m : Machine) (actor : ℕ) (outcome : Outcome) (new : Machine) (keeps : RepliesStand m) where
  somewhere_more : (more : List Entry) → new.order ≡ m.order ++ more → (a : Answered) → StandsSomewhere m.order a → StandsSomewhere new.order a
  somewhere_more more is a (inl outside) = inl outside
  somewhere_more more is a (inr (place, stands)) = inr (place, stands_longer m.order new.order more a.line place a.reply is stands)

  stays : KeepsAllButDisk m new → RepliesStand new
  stays all =
      let order : new.order ≡ m.order ++ [] = all.order ∙ sym (append-nil m.order) in
      record {
        awaits = λ other number place reply is. stands_longer m.order new.order [] number place reply order (keeps.awaits other number place reply (sym (ap (λ (f : ℕ → Activity). f other) all.activity) ∙ is));
        answers = subst (λ (l : List Answered). All (StandsSomewhere new.order) l) (sym all.answered) (λ i d lt. somewhere_more [] order (get_or m.answered i d) (keeps.answers i d lt));
      }

  done : (fetched : StoreState) (deed : Deed) → Performs m fetched actor deed outcome new → All (StandsSomewhere new.order) (given_by (outcome_of deed.says) m.clock)
      → ((number place : ℕ) (reply : Reply) → deed.next ≡ at.SessionAwait number reply place → StandsInOrder new.order number reply place) → RepliesStand new
  done fetched deed performs given own = record {
    awaits = λ other number place reply is. elim (cases_Bool (other == actor)) [
      | inl here ↦ own number place reply (sym (performs.activity other ∙ ap (λ (b : Bool). cond b deed.next (m.activity other)) here) ∙ is)
      | inr off ↦ stands_longer m.order new.order (option_to_list deed.joins) number place reply performs.order (keeps.awaits other number place reply (sym (performs.activity other ∙ ap (λ (b : Bool). cond b deed.next (m.activity other)) off) ∙ is))
    ];
    answers = subst (λ (l : List Answered). All (StandsSomewhere new.order) l) (sym performs.answered)
        (All-append (StandsSomewhere new.order) m.answered (given_by (outcome_of deed.says) m.clock) (λ i d lt. somewhere_more (option_to_list deed.joins) performs.order (get_or m.answered i d) (keeps.answers i d lt)) given);
  }

  none_given : (deed : Deed) → given_by (outcome_of deed.says) m.clock ≡ [] → All (StandsSomewhere new.order) (given_by (outcome_of deed.says) m.clock)
  none_given deed none = subst (λ (l : List Answered). All (StandsSomewhere new.order) l) (sym none) (All-nil (StandsSomewhere new.order))

  one_given : (deed : Deed) (number : ℕ) (reply : Reply) → deed.says ≡ Answers number reply → StandsSomewhere new.order (record { line = number; reply = reply; at = m.clock }) → All (StandsSomewhere new.order) (given_by (outcome_of deed.says) m.clock)
  one_given deed number reply says stands =
      subst (λ (o : Says). All (StandsSomewhere new.order) (given_by (outcome_of o) m.clock)) (sym says) (All-cons (StandsSomewhere new.order) (record { line = number; reply = reply; at = m.clock }) [] stands (All-nil (StandsSomewhere new.order)))

  never_waits : (deed : Deed) → (Waits deed.next → ⊥) → (number place : ℕ) (reply : Reply) → deed.next ≡ at.SessionAwait number reply place → StandsInOrder new.order number reply place
  never_waits deed none number place reply is = absurd (none (subst Waits (sym is) tt))

  quiet : (fetched : StoreState) (deed : Deed) → Performs m fetched actor deed outcome new → given_by (outcome_of deed.says) m.clock ≡ [] → (Waits deed.next → ⊥) → RepliesStand new
  quiet fetched deed performs says waits = done fetched deed performs (none_given deed says) (never_waits deed waits)

  answered : (fetched : StoreState) (deed : Deed) (number : ℕ) (reply : Reply) → Performs m fetched actor deed outcome new → deed.says ≡ Answers number reply → deed.next ≡ at.SessionIdle → StandsSomewhere new.order (record { line = number; reply = reply; at = m.clock }) → RepliesStand new
  answered fetched deed number reply performs says next stands = done fetched deed performs (one_given deed number reply says stands) (never_waits deed (idle_never deed next))

  awaits_same : (a b : Activity) (number other place elsewhere : ℕ) (reply said : Reply) → a ≡ at.SessionAwait number reply place → a ≡ at.SessionAwait other said elsewhere → (number ≡ other) × (place ≡ elsewhere) × (reply ≡ said)
  awaits_same a b number other place elsewhere reply said first second =
      let both : at.SessionAwait number reply place ≡ at.SessionAwait other said elsewhere = sym first ∙ second in
      let one : number ≡ other = cc in
      let two : place ≡ elsewhere = cc in
      let three : reply ≡ said = cc in
      (one, two, three)

  fated : (fetched : StoreState) (deed : Deed) → LineFate m (m.activity actor) deed → Performs m fetched actor deed outcome new → RepliesStand new
  fated fetched deed (inl goes) performs = quiet fetched deed performs (goes.quiet m.clock) goes.awaits
  fated fetched deed (inr (inl takes)) performs =
      let entry : Entry = record { line = takes.line; reply = takes.reply } in
      let order : new.order ≡ m.order ++ entry ∷ [] = performs.order ∙ ap (λ (o : Option Entry). m.order ++ option_to_list o) takes.joins in
      done fetched deed performs (none_given deed (takes.quiet m.clock)) (λ number place reply is.
      let same = awaits_same deed.next deed.next takes.line.number number (length m.order) place takes.reply reply takes.next is in
      record {
        entry = entry;
        there = ap (λ (l : List Entry). slice_get l place) order ∙ ap (λ (n : ℕ). slice_get (m.order ++ entry ∷ []) n) (sym same.1) ∙ get-push_last m.order entry;
        number_is = same.0;
        reply_is = same.2;
      })
  fated fetched deed (inr (inr gives)) performs = answered fetched deed gives.line.number gives.reply performs gives.says gives.next (inl gives.outside)

  worked : Works m actor outcome new → RepliesStand new
  worked (inl (by, way, so)) = stays (stays_so m actor outcome new (outcomes.Blocked by) so)
  worked (inr (inl (free, unready, inl (waits, force)))) = stays (forces_so m actor outcome new outcomes.Helped force)
  worked (inr (inl (free, unready, inr (none, rest)))) =
      ready_kind m outcome new (RepliesStand new) none (λ more. stays (more_so m actor outcome new more)) rest
  worked (inr (inr (free, ready, inl acts))) = fated acts.fetched acts.deed (fate_row m acts.fetched (m.activity actor) _ acts.deed acts.row) acts.performs
  worked (inr (inr (free, ready, inr (inl gives)))) = fated gives.fetched _ (fate_given_up m gives.why (m.activity actor)) gives.performs
  worked (inr (inr (free, ready, inr (inr meets)))) = stays (meets_so m actor outcome new meets)

  pub replies_kept : StepsTo m actor outcome new → RepliesStand new
  replies_kept step = each_step m actor outcome new (RepliesStand new) (record {
    stays = λ said plain so. stays (stays_so m actor outcome new said so);
    forces = λ said silent force. stays (forces_so m actor outcome new said force);
    more = λ more. stays (more_so m actor outcome new more);
    takes = λ line idle next performs. quiet m.store _ performs refl (λ never. never);
    refuses = λ line idle next boxes performs. answered m.store _ line.number replies.NoMemory performs refl refl (inl tt);
    posts = λ deed idle takes performs. quiet m.store deed performs (ap (λ (d : Deed). given_by (outcome_of d.says) m.clock) takes.deed_is) (post_waits_never m deed takes);
    merges = λ deed idle takes performs. quiet m.store deed performs (ap (λ (d : Deed). given_by (outcome_of d.says) m.clock) takes.deed_is) (merge_waits_never m deed takes);
    settles = λ number place reply is settled performs. answered m.store _ number reply performs refl refl (inr (place, stands_longer m.order new.order [] number place reply performs.order (keeps.awaits actor number place reply is)));
    works = λ none works. worked works;
  }) step
