-- The line that a session takes next, where others are answered.
use Rattle.hb_steps.proofs.Facts.Names.{◌≡◌, ◌≢◌, ◌⊎◌, inl, inr, ℕ, ◌<◌, ◌==◌, Bool, cond, List, [], ◌∷◌, ◌++◌, Option, Some, refl, sym, ap, ◌∙◌, subst, arith, none-some, Answered, Line, next_line}
use Rattle.std.proofs.Common.{zero, suc, ◌&&◌, ◌||◌, not, true, false, ne_eqb}
use Rattle.std.specs.List.{Contains}
use Rattle.std.proofs.lemmas.Bool.{eq-eqb, eqb-true, false≢true, and_parts, not-true, not-false, or_left, or_right}
use Rattle.hb_point.specs.SessionRows.{is_answered}
use Rattle.hb_set.specs.Order.{AreRising, IsAbove}
use Rattle.hb_lemmas.proofs.Lists.{later_member}

-- a line of the script, of the session, without an answer
pub record IsNextOf (session : ℕ) (answered : List Answered) (lines : List Line) (line : Line) : Type 0 where
  pub among : Contains lines line
  pub own : line.session ≡ session
  pub open_yet : is_answered line.number answered ≡ false

taken : (session : ℕ) (answered : List Answered) (first line : Line) (rest : List Line) (b : Bool) → ((first.session == session) && not (is_answered first.number answered)) ≡ b
    → (next_line session answered rest ≡ Some line → IsNextOf session answered rest line) → cond b (Some first) (next_line session answered rest) ≡ Some line → IsNextOf session answered (first ∷ rest) line
taken session answered first line rest true test later is =
    let same : first ≡ line = cc in
    let parts = and_parts (first.session == session) (not (is_answered first.number answered)) test in
    subst (IsNextOf session answered (first ∷ rest)) same (record { among = (zero, omega arith, refl); own = eqb-true first.session session parts.0; open_yet = not-true (is_answered first.number answered) parts.1 })
taken session answered first line rest false test later is =
    let next = later is in
    record { among = later_member first rest line next.among; own = next.own; open_yet = next.open_yet }

pub next_is : (session : ℕ) (answered : List Answered) (lines : List Line) (line : Line) → next_line session answered lines ≡ Some line → IsNextOf session answered lines line
next_is session answered [] line is = absurd (none-some line is)
next_is session answered (first ∷ rest) line is =
    taken session answered first line rest ((first.session == session) && not (is_answered first.number answered)) refl (next_is session answered rest line) is

-- ---- numbers that rise

pub above_all : (first : Line) (lines : List Line) (line : Line) → IsAbove first lines → Contains lines line → first.number < line.number
above_all first [] line above (k, lt, e) = absurd (omega (arith, lt))
above_all first (x ∷ lines) line above (zero, lt, e) = subst (λ (l : Line). first.number < l.number) e above.0
above_all first (x ∷ lines) line above (suc k, lt, e) = above_all first lines line above.1 (k, omega (arith, lt), e)

-- two lines of one number are the same
pub same_line : (lines : List Line) (a b : Line) → AreRising lines → Contains lines a → Contains lines b → a.number ≡ b.number → a ≡ b
same_line [] a b rising (k, lt, e) there same = absurd (omega (arith, lt))
same_line (x ∷ lines) a b rising (zero, lt, e) (zero, gt, f) same = sym e ∙ f
same_line (x ∷ lines) a b rising (zero, lt, e) (suc k, gt, f) same =
    let above = above_all x lines b rising.0 (k, omega (arith, gt), f) in
    let number : x.number ≡ a.number = ap (λ (l : Line). l.number) e in
    absurd (omega (arith, above, number, same))
same_line (x ∷ lines) a b rising (suc k, lt, e) (zero, gt, f) same =
    let above = above_all x lines a rising.0 (k, omega (arith, lt), e) in
    let number : x.number ≡ b.number = ap (λ (l : Line). l.number) f in
    absurd (omega (arith, above, number, same))
same_line (x ∷ lines) a b rising (suc k, lt, e) (suc j, gt, f) same = same_line lines a b rising.1 (k, omega (arith, lt), e) (j, omega (arith, gt), f) same

-- an earlier line of the session was answered
second_false : (a b : Bool) → a ≡ true → (a && b) ≡ false → b ≡ false
second_false true b h e = e
second_false false b h e = absurd (false≢true h)

earlier_at : (session : ℕ) (answered : List Answered) (x line first : Line) (rest : List Line) (b : Bool) → ((x.session == session) && not (is_answered x.number answered)) ≡ b → AreRising (x ∷ rest) → Contains (x ∷ rest) first → first.session ≡ session → first.number < line.number
    → (next_line session answered rest ≡ Some line → Contains rest first → is_answered first.number answered ≡ true) → cond b (Some x) (next_line session answered rest) ≡ Some line → is_answered first.number answered ≡ true
earlier_at session answered x line first rest true test rising (zero, lt, e) own less later is =
    let same : x ≡ line = cc in
    let number : x.number ≡ first.number = ap (λ (l : Line). l.number) e in
    let line_number : x.number ≡ line.number = ap (λ (l : Line). l.number) same in
    absurd (omega (arith, less, number, line_number))
earlier_at session answered x line first rest true test rising (suc k, lt, e) own less later is =
    let same : x ≡ line = cc in
    let above = above_all x rest first rising.0 (k, omega (arith, lt), e) in
    let line_number : x.number ≡ line.number = ap (λ (l : Line). l.number) same in
    absurd (omega (arith, less, above, line_number))
earlier_at session answered x line first rest false test rising (zero, lt, e) own less later is =
    let mine : (x.session == session) ≡ true = eq-eqb x.session session (ap (λ (l : Line). l.session) e ∙ own) in
    let done = not-false (is_answered x.number answered) (second_false (x.session == session) (not (is_answered x.number answered)) mine test) in
    subst (λ (l : Line). is_answered l.number answered ≡ true) e done
earlier_at session answered x line first rest false test rising (suc k, lt, e) own less later is = later is (k, omega (arith, lt), e)

pub earlier_answered : (session : ℕ) (answered : List Answered) (lines : List Line) (line first : Line) → AreRising lines → next_line session answered lines ≡ Some line → Contains lines first → first.session ≡ session → first.number < line.number → is_answered first.number answered ≡ true
earlier_answered session answered [] line first rising is (k, lt, e) own less = absurd (omega (arith, lt))
earlier_answered session answered (x ∷ rest) line first rising is there own less =
    earlier_at session answered x line first rest ((x.session == session) && not (is_answered x.number answered)) refl rising there own less
    (λ later among. earlier_answered session answered rest line first rising.1 later among own less) is

-- ---- one answer more

or_false : (b : Bool) → (b || false) ≡ b
or_false true = refl
or_false false = refl

pub or_assoc : (a b c : Bool) → (a || (b || c)) ≡ ((a || b) || c)
or_assoc true b c = refl
or_assoc false b c = refl

pub answered_more : (number : ℕ) (answered : List Answered) (a : Answered) → is_answered number (answered ++ a ∷ []) ≡ (is_answered number answered || (a.line == number))
answered_more number [] a = or_false (a.line == number)
answered_more number (x ∷ answered) a = ap (λ (b : Bool). (x.line == number) || b) (answered_more number answered a) ∙ or_assoc (x.line == number) (is_answered number answered) (a.line == number)

pub still_answered : (number : ℕ) (answered : List Answered) (a : Answered) → is_answered number answered ≡ true → is_answered number (answered ++ a ∷ []) ≡ true
still_answered number answered a is = answered_more number answered a ∙ or_left (is_answered number answered) (a.line == number) is

pub now_answered : (number : ℕ) (answered : List Answered) (a : Answered) → a.line ≡ number → is_answered number (answered ++ a ∷ []) ≡ true
now_answered number answered a is = answered_more number answered a ∙ or_right (is_answered number answered) (a.line == number) (eq-eqb a.line number is)

-- what is answered was so before, or by this one
pub answered_before : (number : ℕ) (answered : List Answered) (a : Answered) → is_answered number (answered ++ a ∷ []) ≡ true → (is_answered number answered ≡ true) ⊎ (a.line ≡ number)
answered_before number answered a is = by (is_answered number answered) refl (sym (answered_more number answered a) ∙ is)
  where
    by : (b : Bool) → is_answered number answered ≡ b → (b || (a.line == number)) ≡ true → (is_answered number answered ≡ true) ⊎ (a.line ≡ number)
    by true e h = inl e
    by false e h = inr (eqb-true a.line number h)

pub unanswered_same : (number : ℕ) (answered : List Answered) (a : Answered) → a.line ≢ number → is_answered number (answered ++ a ∷ []) ≡ is_answered number answered
unanswered_same number answered a other = answered_more number answered a ∙ ap (λ (b : Bool). is_answered number answered || b) (ne_eqb a.line number other) ∙ or_false (is_answered number answered)

-- an answer to a line of no such number in the session leaves the session's next line
and_later : (a b c : Bool) → (a ≡ true → b ≡ c) → (a && b) ≡ (a && c)
and_later true b c h = h refl
and_later false b c h = refl

pub next_stays : (session : ℕ) (answered : List Answered) (a : Answered) (lines : List Line) → ((line : Line) → Contains lines line → line.session ≡ session → a.line ≢ line.number) → next_line session (answered ++ a ∷ []) lines ≡ next_line session answered lines
next_stays session answered a [] apart = refl
next_stays session answered a (x ∷ lines) apart =
    let here : ((x.session == session) && not (is_answered x.number (answered ++ a ∷ []))) ≡ ((x.session == session) && not (is_answered x.number answered)) =
    and_later (x.session == session) (not (is_answered x.number (answered ++ a ∷ []))) (not (is_answered x.number answered))
    (λ own. ap not (unanswered_same x.number answered a (apart x (zero, omega arith, refl) (eqb-true x.session session own)))) in
    ap (λ (b : Bool). cond b (Some x) (next_line session (answered ++ a ∷ []) lines)) here
    ∙ ap (λ (o : Option Line). cond ((x.session == session) && not (is_answered x.number answered)) (Some x) o) (next_stays session answered a lines (λ line there own. apart line (later_member x lines line there) own))
