-- How many lines have no answer after a step: one less where it answered one, and else as many.
use Rattle.hb_core.proofs.Facts.Names.{◌≡◌, ◌≢◌, inl, inr, ℕ, zero, suc, ◌+◌, Bool, true, false, cond, List, [], ◌∷◌, ◌++◌, length, Option, Some, None, IfSome, refl, sym, ap, ◌∙◌, subst, arith, append-nil, append_cancel_left, answers_are_timed, order_grows, Machine, given_by, left_count, StepsTo, Outcome, AreRising, Answered, Line}
use Rattle.std.proofs.Common.{not, count_by, length-append}
use Rattle.std.specs.List.{Contains}
use Rattle.std.specs.Option.{IsSomeAnd}
use Rattle.std.proofs.lemmas.List.Sums.{sum_by-cons}
use Rattle.hb_steps.proofs.Facts.NextLines.{IsNextOf, above_all, next_is, now_answered, unanswered_same}
use Rattle.hb_steps.proofs.Facts.StepLines.{LinesAfter, PlaceSettled, lines_after}
use Rattle.hb_steps.specs.KeptSequence.{LinesInSequence, awaited_number}
use Rattle.hb_point.specs.SessionRows.{is_answered, next_line}
use Rattle.hb_set.specs.Order.{IsAbove}

-- how many of the lines have no answer, and whether one has none, as a number
abbrev open_count : List Answered → List Line → ℕ
open_count answered lines = count_by (λ (line : Line). not (is_answered line.number answered)) lines

abbrev open_one : List Answered → Line → ℕ
open_one answered line = cond (not (is_answered line.number answered)) 1 0

count_cons : (answered : List Answered) (x : Line) (lines : List Line) → open_count answered (x ∷ lines) ≡ open_one answered x + open_count answered lines
count_cons answered x lines = sum_by-cons (open_one answered) x lines

both_same : (before after x y r s : ℕ) → before ≡ x + r → after ≡ y + s → y ≡ x → s ≡ r → after ≡ before
both_same before after x y r s was is one rest = omega (arith, was, is, one, rest)

first_less : (before after x y r s : ℕ) → before ≡ x + r → after ≡ y + s → x ≡ 1 → y ≡ 0 → s ≡ r → 1 + after ≡ before
first_less before after x y r s was is one none rest = omega (arith, was, is, one, none, rest)

later_less : (before after x y r s : ℕ) → before ≡ x + r → after ≡ y + s → y ≡ x → 1 + s ≡ r → 1 + after ≡ before
later_less before after x y r s was is one rest = omega (arith, was, is, one, rest)

-- an answer to a line leaves those behind it as they were
same_one : (answered : List Answered) (a : Answered) (x : Line) → a.line ≢ x.number → open_one (answered ++ a ∷ []) x ≡ open_one answered x
same_one answered a x apart = ap (λ (b : Bool). cond (not b) 1 0) (unanswered_same x.number answered a apart)

behind_same : (answered : List Answered) (a : Answered) (line : Line) (lines : List Line) → a.line ≡ line.number → IsAbove line lines → open_count (answered ++ a ∷ []) lines ≡ open_count answered lines
behind_same answered a line [] number above = refl
behind_same answered a line (x ∷ lines) number above =
    let less = above.0 in
    both_same (open_count answered (x ∷ lines)) (open_count (answered ++ a ∷ []) (x ∷ lines)) (open_one answered x) (open_one (answered ++ a ∷ []) x) (open_count answered lines) (open_count (answered ++ a ∷ []) lines)
    (count_cons answered x lines) (count_cons (answered ++ a ∷ []) x lines) (same_one answered a x (λ same. omega (arith, less, number, same))) (behind_same answered a line lines number above.1)

-- an answer to a line that had none
one_less : (answered : List Answered) (a : Answered) (line : Line) (lines : List Line) → AreRising lines → Contains lines line → is_answered line.number answered ≡ false → a.line ≡ line.number → 1 + open_count (answered ++ a ∷ []) lines ≡ open_count answered lines
one_less answered a line [] rising (k, lt, e) none number = absurd (omega (arith, lt))
one_less answered a line (x ∷ lines) rising (zero, lt, e) none number =
    let here : x.number ≡ line.number = ap (λ (l : Line). l.number) e in
    let open_yet : is_answered x.number answered ≡ false = ap (λ (n : ℕ). is_answered n answered) here ∙ none in
    let done : is_answered x.number (answered ++ a ∷ []) ≡ true = now_answered x.number answered a (number ∙ sym here) in
    first_less (open_count answered (x ∷ lines)) (open_count (answered ++ a ∷ []) (x ∷ lines)) (open_one answered x) (open_one (answered ++ a ∷ []) x) (open_count answered lines) (open_count (answered ++ a ∷ []) lines)
    (count_cons answered x lines) (count_cons (answered ++ a ∷ []) x lines) (ap (λ (b : Bool). cond (not b) 1 0) open_yet) (ap (λ (b : Bool). cond (not b) 1 0) done) (behind_same answered a x lines (number ∙ sym here) rising.0)
one_less answered a line (x ∷ lines) rising (suc k, lt, e) none number =
    let there : Contains lines line = (k, omega (arith, lt), e) in
    let less = above_all x lines line rising.0 there in
    later_less (open_count answered (x ∷ lines)) (open_count (answered ++ a ∷ []) (x ∷ lines)) (open_one answered x) (open_one (answered ++ a ∷ []) x) (open_count answered lines) (open_count (answered ++ a ∷ []) lines)
    (count_cons answered x lines) (count_cons (answered ++ a ∷ []) x lines) (same_one answered a x (λ same. omega (arith, less, number, same))) (one_less answered a line lines rising.1 there none number)

-- ---- a step

none_more : (given left before : ℕ) → given ≡ 0 → left ≡ before → given + left ≡ before
none_more given left before none same = omega (arith, none, same)

one_more : (given left after before : ℕ) → given ≡ 1 → left ≡ after → 1 + after ≡ before → given + left ≡ before
one_more given left after before one is less = omega (arith, one, is, less)

module _ (m : Machine) (actor : ℕ) (outcome : Outcome) (new : Machine) (turn : LinesInSequence m) (step : StepsTo m actor outcome new) where
  abbrev given : List Answered
  given = given_by outcome new.clock

  as_many : (more : List Answered) → new.answered ≡ m.answered ++ more → length given ≡ length more
  as_many more is = ap length (append_cancel_left m.answered given more (sym (answers_are_timed m actor outcome new step) ∙ is))

  counted : (answered : List Answered) → new.answered ≡ answered → left_count new ≡ open_count answered m.lines
  counted answered is = ap (λ (l : List Line). open_count new.answered l) (order_grows m actor outcome new step).0 ∙ ap (λ (l : List Answered). open_count l m.lines) is

  none_left_more : new.answered ≡ m.answered → length given + left_count new ≡ left_count m
  none_left_more same = none_more (length given) (left_count new) (left_count m) (as_many [] (same ∙ sym (append-nil m.answered))) (counted m.answered same)

  one_answered : (line : Line) (a : Answered) → next_line actor m.answered m.lines ≡ Some line → a.line ≡ line.number → new.answered ≡ m.answered ++ a ∷ [] → length given + left_count new ≡ left_count m
  one_answered line a next number is =
      let own : IsNextOf actor m.answered m.lines line = next_is actor m.answered m.lines line next in
      one_more (length given) (left_count new) (open_count (m.answered ++ a ∷ []) m.lines) (left_count m) (as_many (a ∷ []) is) (counted (m.answered ++ a ∷ []) is) (one_less m.answered a line m.lines turn.rising own.among own.open_yet number)

  settled_one : PlaceSettled m actor new → length given + left_count new ≡ left_count m
  settled_one settled = by (next_line actor m.answered m.lines) refl (subst (λ (o : Option ℕ). IfSome o (λ number. IsSomeAnd (next_line actor m.answered m.lines) (λ line. line.number ≡ number))) (ap awaited_number settled.waited) (turn.awaited actor))
    where
      by : (o : Option Line) → next_line actor m.answered m.lines ≡ o → IsSomeAnd o (λ line. line.number ≡ settled.number) → length given + left_count new ≡ left_count m
      by None next never = absurd never
      by (Some line) next same = one_answered line _ next (sym same) settled.answered

  left_by : LinesAfter m actor new → length given + left_count new ≡ left_count m
  left_by (inl stays) = none_left_more stays.answered
  left_by (inr (inl joins)) = none_left_more joins.answered
  left_by (inr (inr (inl answered))) = one_answered answered.line _ answered.next refl answered.answered
  left_by (inr (inr (inr settled))) = settled_one settled

  pub left_after : length (given_by outcome new.clock) + left_count new ≡ left_count m
  left_after = left_by (lines_after m actor outcome new turn step)

-- and after the answers that came before
pub left_more : (came given : List Answered) (left before first : ℕ) → length came + before ≡ first → length given + left ≡ before → length (came ++ given) + left ≡ first
left_more came given left before first was is =
    let long = length-append {A = Answered} came given in
    omega (arith, was, is, long)
