-- After a step no line stands twice in the order, which is no longer than the script.
use Rattle.hb_steps.proofs.Orders.Names.{◌≡◌, ◌≢◌, inl, inr, ℕ, zero, suc, ◌<◌, ◌≤◌, ◌==◌, Bool, true, false, cond, List, [], ◌∷◌, length, get_or, All, AllPairs, Some, None, refl, sym, ap, ◌∙◌, subst, arith, Contains, cases_Bool, eqb-false, eqb-true, false≢true, All-head, All-tail, all_pairs_push, Line, Outcome, IsNextOf, next_is, same_line, MachineKeeps, IsInSequence, LinesInSequence, awaited_number, Machine, StepsTo, IsActor, is_answered, next_line, Entry, none-some}
use Rattle.std.proofs.Common.{◌+◌}
use Rattle.hb_steps.proofs.Facts.StepLines.{LinesAfter, lines_after}
use Rattle.hb_steps.proofs.Orders.Sequences.{sequence_stays}
use Rattle.hb_steps.specs.KeptPlaces.{OrderIsShort}

-- two entries are of different lines
abbrev pub AreOfTwo : Entry → Entry → Type 0
AreOfTwo e f = e.line.number ≢ f.line.number

-- ---- entries of different lines of a script are no more than its lines

-- the lines but the first one of a number
abbrev without : ℕ → List Line → List Line
without number [] = []
without number (l ∷ lines) = cond (l.number == number) lines (l ∷ without number lines)

shorter : (number : ℕ) (lines : List Line) (line : Line) → Contains lines line → line.number ≡ number → length (without number lines) + 1 ≤ length lines
shorter number [] line (k, lt, is) same = absurd (omega (arith, lt))
shorter number (l ∷ lines) line (k, lt, is) same = elim (cases_Bool (l.number == number)) [
  | inl here ↦ let e : length (without number (l ∷ lines)) ≡ length lines = ap (λ (b : Bool). length (cond b lines (l ∷ without number lines))) here in omega (arith, e)
  | inr off ↦
      let e : length (without number (l ∷ lines)) ≡ length (l ∷ without number lines) = ap (λ (b : Bool). length (cond b lines (l ∷ without number lines))) off in
      let fewer = shorter number lines line (later k lt is off) same in
      omega (arith, e, fewer)
]
  where
    later : (k : ℕ) → k < length (l ∷ lines) → get_or (l ∷ lines) k line ≡ line → (l.number == number) ≡ false → Contains lines line
    later zero lt is off = absurd (eqb-false l.number number off (ap (λ (x : Line). x.number) is ∙ same))
    later (suc k) lt is off = (k, omega (arith, lt), is)

still_there : (number : ℕ) (lines : List Line) (line : Line) → Contains lines line → line.number ≢ number → Contains (without number lines) line
still_there number [] line (k, lt, is) other = absurd (omega (arith, lt))
still_there number (l ∷ lines) line (k, lt, is) other = elim (cases_Bool (l.number == number)) [
  | inl here ↦ subst (λ (b : Bool). Contains (cond b lines (l ∷ without number lines)) line) (sym here) (behind k lt is here)
  | inr off ↦ subst (λ (b : Bool). Contains (cond b lines (l ∷ without number lines)) line) (sym off) (either (λ there. still_there number lines line there other) k lt is)
]
  where
    behind : (k : ℕ) → k < length (l ∷ lines) → get_or (l ∷ lines) k line ≡ line → (l.number == number) ≡ true → Contains lines line
    behind zero lt is here = absurd (other (sym (ap (λ (x : Line). x.number) is) ∙ eqb-true l.number number here))
    behind (suc k) lt is here = (k, omega (arith, lt), is)

    either : (Contains lines line → Contains (without number lines) line) → (k : ℕ) → k < length (l ∷ lines) → get_or (l ∷ lines) k line ≡ line → Contains (l ∷ without number lines) line
    either further zero lt is = (zero, omega arith, is)
    either further (suc k) lt is = let there = further (k, omega (arith, lt), is) in (suc there.0, omega (arith, there.1), there.2)

pub no_more_than : (order : List Entry) (lines : List Line) → AllPairs AreOfTwo order → All (λ (e : Entry). Contains lines e.line) order → length order ≤ length lines
no_more_than [] lines once among = omega arith
no_more_than (e ∷ order) lines once among =
    let here = All-head (λ (e : Entry). Contains lines e.line) e order among in
    let rest = no_more_than order (without e.line.number lines)
    (λ i j d low high. once (suc i) (suc j) d (omega (arith, low)) (omega (arith, high)))
    (λ k d lt. still_there e.line.number lines (get_or order k d).line (All-tail (λ (e : Entry). Contains lines e.line) e order among k d lt) (λ same. once zero (suc k) d (omega arith) (omega (arith, lt)) (sym same))) in
    let fewer = shorter e.line.number lines e.line here refl in
    omega (arith, rest, fewer)

-- ---- a step

-- the next line of a session that waits for no place doesn't stand in the order
pub next_not_placed : (m : Machine) (actor : ℕ) (line : Line) → LinesInSequence m → next_line actor m.answered m.lines ≡ Some line → awaited_number (m.activity actor) ≡ None → All (λ (e : Entry). e.line.number ≢ line.number) m.order
next_not_placed m actor line sequence next none k d lt = by (get_or m.order k d) (sequence.placed k d lt)
  where
    by : (e : Entry) → IsInSequence m e → e.line.number ≢ line.number
    by e one same = elim one.state [
      | inl done ↦ false≢true (sym own.open_yet ∙ ap (λ (n : ℕ). is_answered n m.answered) (sym same) ∙ done)
      | inr waits ↦ none-some e.line.number (sym none ∙ ap (λ (n : ℕ). awaited_number (m.activity n)) (sym own.own ∙ sym session) ∙ waits)
    ]
      where
        own : IsNextOf actor m.answered m.lines line
        own = next_is actor m.answered m.lines line next

        session : e.line.session ≡ line.session
        session = ap (λ (l : Line). l.session) (same_line m.lines e.line line sequence.rising one.among own.among same)

module _ (m : Machine) (actor : ℕ) (new : Machine) (sequence : LinesInSequence m) (once : AllPairs AreOfTwo m.order) where
  still_once : LinesAfter m actor new → AllPairs AreOfTwo new.order
  still_once (inl stays) = subst (λ (es : List Entry). AllPairs AreOfTwo es) (sym stays.order) once
  still_once (inr (inl joins)) = subst (λ (es : List Entry). AllPairs AreOfTwo es) (sym joins.order) (all_pairs_push AreOfTwo m.order _ once (next_not_placed m actor joins.line sequence joins.next joins.none_awaited))
  still_once (inr (inr (inl answered))) = subst (λ (es : List Entry). AllPairs AreOfTwo es) (sym answered.order) once
  still_once (inr (inr (inr settled))) = subst (λ (es : List Entry). AllPairs AreOfTwo es) (sym settled.order) once

pub order_stays_short : (m : Machine) (actor : ℕ) (outcome : Outcome) (new : Machine) → IsActor actor → MachineKeeps m → StepsTo m actor outcome new → OrderIsShort new
order_stays_short m actor outcome new may keeps step =
    let once = still_once m actor new keeps.lines_in_sequence keeps.order_short.once (lines_after m actor outcome new keeps.lines_in_sequence step) in
    let sequence = sequence_stays m actor outcome new keeps.lines_in_sequence step in
    record { once = once; few = no_more_than new.order new.lines once (λ k d lt. (sequence.placed k d lt).among) }
