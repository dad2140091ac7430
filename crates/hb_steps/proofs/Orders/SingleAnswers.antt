-- After a step no line was answered twice, and one that was answered outside of the order doesn't stand in it.
use Rattle.hb_steps.proofs.Orders.Names.{◌≡◌, ◌≢◌, inl, inr, ℕ, ◌==◌, Bool, false, List, [], ◌∷◌, ◌++◌, get_or, All, AllPairs, Option, Some, None, IfSome, refl, sym, ap, ◌∙◌, subst, IsSomeAnd, cases_Bool, eqb-false, false≢true, All-cons, All-nil, All-push, all_pairs_push, Answered, Line, Outcome, next_is, MachineKeeps, StandsOutside, AwaitsNoneOutside, LinesInSequence, awaited_number, Machine, StepsTo, IsActor, is_answered, next_line, Entry}
use Rattle.std.proofs.Common.{◌||◌}
use Rattle.hb_steps.proofs.Orders.ShortOrder.{next_not_placed}
use Rattle.hb_steps.proofs.Facts.StepLines.{LinesAfter, PlaceSettled, lines_after}
use Rattle.hb_steps.specs.KeptPlaces.{AnswersAreSingle}

-- two answers are to different lines
abbrev pub AreToTwo : Answered → Answered → Type 0
AreToTwo a b = a.line ≢ b.line

-- an answer outside of the order is to a line that doesn't stand there
abbrev StandsNowhere : List Entry → Answered → Type 0
StandsNowhere order a = StandsOutside a.reply → All (λ (e : Entry). e.line.number ≢ a.line) order

-- where a line of a number has no answer, each answer is to another one
none_to : (number : ℕ) (answered : List Answered) → is_answered number answered ≡ false → All (λ (a : Answered). a.line ≢ number) answered
none_to number [] none = All-nil (λ (a : Answered). a.line ≢ number)
none_to number (a ∷ answered) none = elim (cases_Bool (a.line == number)) [
  | inl here ↦ absurd (false≢true (sym none ∙ ap (λ (b : Bool). b || is_answered number answered) here))
  | inr off ↦ All-cons (λ (a : Answered). a.line ≢ number) a answered (eqb-false a.line number off) (none_to number answered (sym (ap (λ (b : Bool). b || is_answered number answered) off) ∙ none))
]

module _ (m : Machine) (actor : ℕ) (new : Machine) (sequence : LinesInSequence m) (inside : AwaitsNoneOutside m) (single : AnswersAreSingle m) where
  -- the next line of a session has no answer
  next_open : (line : Line) → next_line actor m.answered m.lines ≡ Some line → All (λ (a : Answered). a.line ≢ line.number) m.answered
  next_open line next = none_to line.number m.answered (next_is actor m.answered m.lines line next).open_yet

  -- nor has the one for whose place it waits
  awaited_open : (settled : PlaceSettled m actor new) → All (λ (a : Answered). a.line ≢ settled.number) m.answered
  awaited_open settled = by (next_line actor m.answered m.lines) refl (subst (λ (o : Option ℕ). IfSome o (λ number. IsSomeAnd (next_line actor m.answered m.lines) (λ line. line.number ≡ number))) (ap awaited_number settled.waited) (sequence.awaited actor))
    where
      by : (o : Option Line) → next_line actor m.answered m.lines ≡ o → IsSomeAnd o (λ line. line.number ≡ settled.number) → All (λ (a : Answered). a.line ≢ settled.number) m.answered
      by None next never = absurd never
      by (Some line) next same = subst (λ (n : ℕ). All (λ (a : Answered). a.line ≢ n) m.answered) same (next_open line next)

  as_one : (order : List Entry) (answered : List Answered) → new.order ≡ order → new.answered ≡ answered → AllPairs AreToTwo answered → All (StandsNowhere order) answered → AnswersAreSingle new
  as_one order answered order_is answered_is once outside = record {
    once = subst (λ (l : List Answered). AllPairs AreToTwo l) (sym answered_is) once;
    outside = subst (λ (es : List Entry). All (StandsNowhere es) new.answered) (sym order_is) (subst (λ (l : List Answered). All (StandsNowhere order) l) (sym answered_is) outside);
  }

  pub single_after : LinesAfter m actor new → AnswersAreSingle new
  single_after (inl stays) = as_one m.order m.answered stays.order stays.answered single.once single.outside
  single_after (inr (inl joins)) =
      as_one (m.order ++ record { line = joins.line; reply = joins.reply } ∷ []) m.answered joins.order joins.answered single.once
      (λ k d lt outside. All-push (λ (e : Entry). e.line.number ≢ (get_or m.answered k d).line) m.order _ (single.outside k d lt outside) (λ same. next_open joins.line joins.next k d lt (sym same)))
  single_after (inr (inr (inl answered))) =
      as_one m.order _ answered.order answered.answered
      (all_pairs_push AreToTwo m.answered _ single.once (next_open answered.line answered.next))
      (All-push (StandsNowhere m.order) m.answered _ single.outside (λ outside. next_not_placed m actor answered.line sequence answered.next answered.none_awaited))
  single_after (inr (inr (inr settled))) =
      as_one m.order _ settled.order settled.answered
      (all_pairs_push AreToTwo m.answered _ single.once (awaited_open settled))
      (All-push (StandsNowhere m.order) m.answered _ single.outside (λ outside. absurd (inside actor settled.number settled.place settled.reply settled.waited outside)))

pub answers_stay_single : (m : Machine) (actor : ℕ) (outcome : Outcome) (new : Machine) → IsActor actor → MachineKeeps m → StepsTo m actor outcome new → AnswersAreSingle new
answers_stay_single m actor outcome new may keeps step = single_after m actor new keeps.lines_in_sequence keeps.awaits_inside keeps.answers_single (lines_after m actor outcome new keeps.lines_in_sequence step)
