-- What a step does to the clock, and when a line is answered.
use Rattle.hb_steps.proofs.Memory.Names.{◌≡◌, inl, inr, ℕ, ◌+◌, ◌≤◌, List, ◌∷◌, refl, sym, ap, ◌∙◌, arith, Outcome, Deed, FlushesMore, each_kind, ready_kind, MeetsBadPage, ForcesAll, StaysSo, Machine, Performs, StepsTo, Works, has_value, StoreState}
use Rattle.std.proofs.Common.{[], ◌++◌, append-nil}
use Rattle.hb_set.specs.declared.scripts.Answered.{Answered}
use Rattle.hb_steps.specs.declared.outcomes.Outcome.TheVariants as outcomes
use Rattle.hb_steps.proofs.Facts.StepKinds.{MoreToFlush, plain_is_quiet}
use Rattle.hb_steps.specs.Laws.{AnswersAreTimed, ClockMoves, MovesClock}
use Rattle.hb_steps.specs.Performing.{given_by}
use Rattle.hb_store.specs.Held.{oldest_dirty}
use Rattle.hb_wal.specs.Forces.{calls_of_force}
use Rattle.hb_wal.specs.Log.{Waiting}
use Rattle.hb_lemmas.proofs.Lists.{not_empty}

-- what a step does to both
pub record Times (m : Machine) (outcome : Outcome) (new : Machine) : Type 0 where
  pub clock : MovesClock m new
  pub answered : new.answered ≡ m.answered ++ given_by outcome new.clock

nothing_given : (m new : Machine) (outcome said : Outcome) → outcome ≡ said → given_by said new.clock ≡ [] → new.answered ≡ m.answered → new.answered ≡ m.answered ++ given_by outcome new.clock
nothing_given m new outcome said is none same =
    same ∙ sym (append-nil m.answered) ∙ sym (ap (λ (l : List Answered). m.answered ++ l) (ap (λ (o : Outcome). given_by o new.clock) is ∙ none))

module _ (m : Machine) (actor : ℕ) (outcome : Outcome) (new : Machine) where
  same : (said : Outcome) → given_by said new.clock ≡ [] → StaysSo m said outcome new → Times m outcome new
  same said none so = record { clock = inl (ap (λ (n : Machine). n.clock) so.1); answered = nothing_given m new outcome said so.0 none (ap (λ (n : Machine). n.answered) so.1) }

  performed : (fetched : StoreState) (deed : Deed) → Performs m fetched actor deed outcome new → Times m outcome new
  performed fetched deed performs = record {
    clock = inl performs.clock;
    answered =
        performs.answered
        ∙ ap (λ (o : Outcome). m.answered ++ given_by o m.clock) (sym performs.says)
        ∙ ap (λ (n : ℕ). m.answered ++ given_by outcome n) (sym performs.clock);
  }

  forces_well : (groups : List Waiting) → m.store.log.groups ≡ groups → new.clock ≡ m.clock + calls_of_force groups → MovesClock m new
  forces_well [] none clock = inl (omega (arith, clock))
  forces_well (first ∷ rest) some clock = inr (inl (λ empty. not_empty first rest (sym some ∙ empty), (omega (arith, clock), omega (arith, clock))))

  forced : (said : Outcome) → given_by said new.clock ≡ [] → ForcesAll m said outcome new → Times m outcome new
  forced said none (inl well) = record {
    clock = forces_well m.store.log.groups refl (ap (λ (n : Machine). n.clock) well.1);
    answered = nothing_given m new outcome said well.0 none (ap (λ (n : Machine). n.answered) well.1);
  }
  forced said none (inr badly) =
      let clock : new.clock ≡ badly.1.clock = ap (λ (n : Machine). n.clock) badly.1.stops in
      record {
        clock = inr (inl (badly.0, (omega (arith, clock, badly.1.from), omega (arith, clock, badly.1.few))));
        answered = nothing_given m new outcome _ badly.1.says refl (ap (λ (n : Machine). n.answered) badly.1.stops);
      }

  failed_within : (calls : ℕ) → m.store.log.groups ≡ [] → MoreToFlush m calls → m.clock ≤ new.clock → new.clock ≤ m.clock + calls → MovesClock m new
  failed_within calls none (inl (page, oldest, one)) from few = inr (inr (inl (none, has_value (oldest_dirty m.uses) page oldest, (from, omega (arith, few, one)))))
  failed_within calls none (inr (old, nine)) from few = inr (inr (inr (none, old, (from, omega (arith, few, nine)))))

  more_times : FlushesMore m outcome new → Times m outcome new
  more_times (none, inl (page, oldest, due, quiet, well)) =
      let clock : new.clock ≡ m.clock + 1 = ap (λ (n : Machine). n.clock) well.leaves in
      record {
        clock = inr (inr (inl (none, has_value (oldest_dirty m.uses) page oldest, (omega (arith, clock), omega (arith, clock)))));
        answered = nothing_given m new outcome due well.says (plain_is_quiet due quiet new.clock) (ap (λ (n : Machine). n.answered) well.leaves);
      }
  more_times (none, inr (inl (old, due, quiet, turns))) =
      let clock : new.clock ≡ m.clock + 9 = ap (λ (n : Machine). n.clock) turns.leaves in
      record {
        clock = inr (inr (inr (none, old, (omega (arith, clock), omega (arith, clock)))));
        answered = nothing_given m new outcome due turns.says (plain_is_quiet due quiet new.clock) (ap (λ (n : Machine). n.answered) turns.leaves);
      }
  more_times (none, inr (inr (calls, left, fails))) =
      let clock : new.clock ≡ fails.clock = ap (λ (n : Machine). n.clock) fails.stops in
      record {
        clock = failed_within calls none left (omega (arith, clock, fails.from)) (omega (arith, clock, fails.few));
        answered = nothing_given m new outcome _ fails.says refl (ap (λ (n : Machine). n.answered) fails.stops);
      }

  met : MeetsBadPage m actor outcome new → Times m outcome new
  met meets = record { clock = inl (ap (λ (n : Machine). n.clock) meets.stops); answered = nothing_given m new outcome _ meets.says refl (ap (λ (n : Machine). n.answered) meets.stops) }

  worked : Works m actor outcome new → Times m outcome new
  worked (inl (by, way, so)) = same (outcomes.Blocked by) refl so
  worked (inr (inl (free, unready, inl (waits, force)))) = forced outcomes.Helped refl force
  worked (inr (inl (free, unready, inr (none, rest)))) = ready_kind m outcome new (Times m outcome new) none more_times rest
  worked (inr (inr (free, ready, inl acts))) = performed acts.fetched acts.deed acts.performs
  worked (inr (inr (free, ready, inr (inl gives)))) = performed gives.fetched _ gives.performs
  worked (inr (inr (free, ready, inr (inr meets)))) = met meets

times : (m : Machine) (actor : ℕ) (outcome : Outcome) (new : Machine) → StepsTo m actor outcome new → Times m outcome new
times m actor outcome new step =
    each_kind m actor outcome new (Times m outcome new)
    (λ said quiet so. same m actor outcome new said (quiet new.clock) so)
    (λ said quiet force. forced m actor outcome new said (quiet new.clock) force)
    (more_times m actor outcome new)
    (λ deed rests performs. performed m actor outcome new m.store deed performs)
    (worked m actor outcome new)
    step

pub clock_moves : ClockMoves
clock_moves m actor outcome new step = (times m actor outcome new step).clock

pub answers_are_timed : AnswersAreTimed
answers_are_timed m actor outcome new step = (times m actor outcome new step).answered
