-- Which lines have no answer, by where their sessions stand.
use Rattle.hb_core.proofs.Running.Names.{◌≡◌, ◌⊎◌, inl, inr, ◌↔◌, ℕ, zero, suc, ◌+◌, ◌-◌, ◌<◌, ◌≤◌, Bool, true, false, cond, not, IsTrue, List, [], ◌∷◌, ◌++◌, take, drop, length, filter, get_or, Option, Some, None, IfSome, refl, sym, ap, subst, ◌∙◌, arith, append-nil, false≢true, get_or-drop, get_or-take, map-append, take_all, get_or_from_slice_get, same_Some, slice_get-get_or, slice_get_within, none-some, DiskModel, Answered, Line, Activity, line_in_hand, is_answered, next_line, MachineKeeps, HasAnswer, awaited_number, Machine, StandsAs, RunningCore, ShowsMachine, number_in_hand}
use Rattle.std.proofs.Common.{map, count_by, slice_get, All, append_assoc}
use Rattle.std.specs.Option.{IsSomeAnd}
use Rattle.std.proofs.Math.Seq.{take-suc}
use Rattle.std.proofs.lemmas.List.{length-drop}
use Rattle.std.proofs.lemmas.List.Elements.{filter-append}
use Rattle.std.proofs.lemmas.List.Sums.{count_by_more_no, count_by_more_yes}
use Rattle.std.proofs.lemmas.Option.{slice_get_read}
use Rattle.hb_activity.specs.declared.activities.Activity.TheVariants as at
use Rattle.hb_core.specs.Showing.{IsDealtWith, IsToCome}
use Rattle.hb_core.specs.Runs.{has_none}
use Rattle.hb_steps.proofs.Facts.NextLines.{next_is}

-- a member of the front, and one of what lies behind
in_front : (P : Line → Type 0) (lines : List Line) (n place : ℕ) (line : Line) → All P (take n lines) → place < n → slice_get lines place ≡ Some line → P line
in_front P lines n place line all low there =
    let within = slice_get_within lines place line there in
    subst P (get_or-take n lines place line low ∙ get_or_from_slice_get lines place line line there) (all place line (short n lines place low within))
  where
    short : (n : ℕ) (lines : List Line) (place : ℕ) → place < n → place < length lines → place < length (take n lines)
    short n [] place low within = absurd (omega (arith, within))
    short zero (x ∷ lines) place low within = absurd (omega (arith, low))
    short (suc n) (x ∷ lines) zero low within = omega arith
    short (suc n) (x ∷ lines) (suc place) low within = omega (arith, short n lines place (omega (arith, low)) (omega (arith, within)))

behind_it : (P : Line → Type 0) (lines : List Line) (n place : ℕ) (line : Line) → All P (drop n lines) → n ≤ place → slice_get lines place ≡ Some line → P line
behind_it P lines n place line all low there =
    let within = slice_get_within lines place line there in
    let back : n + (place - n) ≡ place = omega (arith, low) in
    subst P (get_or-drop n lines (place - n) line ∙ ap (λ (i : ℕ). get_or lines i line) back ∙ get_or_from_slice_get lines place line line there)
    (all (place - n) line (short n lines place low within))
  where
    short : (n : ℕ) (lines : List Line) (place : ℕ) → n ≤ place → place < length lines → place - n < length (drop n lines)
    short n lines place low within = omega (arith, length-drop n lines, low, within)

not_so : (b : Bool) → (IsTrue b → ⊥) → true ≡ not b
not_so true off = absurd (off refl)
not_so false off = refl

next_open : (session : ℕ) (answered : List Answered) (lines : List Line) (line : Line) (number : ℕ) → next_line session answered lines ≡ Some line → line.number ≡ number → is_answered number answered ≡ false
next_open session answered lines line number is same = subst (λ (n : ℕ). is_answered n answered ≡ false) same (next_is session answered lines line is).open_yet

-- what is in hand, or awaited, wasn't answered
in_hand_open : (session : ℕ) (answered : List Answered) (lines : List Line) (activity : Activity) (number : ℕ)
    → IfSome (line_in_hand activity) (λ line. next_line session answered lines ≡ Some line)
    → IfSome (awaited_number activity) (λ number. IsSomeAnd (next_line session answered lines) (λ line. line.number ≡ number))
    → number_in_hand activity ≡ Some number → is_answered number answered ≡ false
in_hand_open session answered lines (at.SessionWalk line held rest found) number in_hand awaited is = next_open session answered lines line number in_hand (same_Some line.number number is)
in_hand_open session answered lines (at.SessionSplit line held) number in_hand awaited is = next_open session answered lines line number in_hand (same_Some line.number number is)
in_hand_open session answered lines (at.SessionPut line source fresh) number in_hand awaited is = next_open session answered lines line number in_hand (same_Some line.number number is)
in_hand_open session answered lines (at.SessionAwait kept reply place) number in_hand awaited is = by (next_line session answered lines) refl awaited
  where
    by : (o : Option Line) → next_line session answered lines ≡ o → IsSomeAnd o (λ (line : Line). line.number ≡ kept) → is_answered number answered ≡ false
    by None none never = absurd never
    by (Some line) next same = next_open session answered lines line number next (same ∙ same_Some kept number is)
in_hand_open session answered lines other number in_hand awaited is = absurd (none-some number is)

-- how far its session has come, as the code reads it
far_so : (behinds : List ℕ) (session from : ℕ) → length behinds ≡ 16 → from ≡ session → 1 ≤ session → session ≤ 16 → slice_get behinds (session - 1) ≡ Some (get_or behinds (from - 1) 0)
far_so behinds session from sixteen same low high =
    slice_get-get_or behinds (session - 1) 0 (omega (arith, sixteen, low, high)) ∙ ap (λ (n : ℕ). Some (get_or behinds (n - 1) 0)) (sym same)

-- the line, by whether its session has come to it
pub to_come : (d : DiskModel) (c : RunningCore) (m : Machine) (place from : ℕ) (line : Line) (b : Bool) → ShowsMachine d c m → 1 ≤ line.session → line.session ≤ 16 → slice_get m.lines place ≡ Some line
    → from ≡ line.session → get_or c.behind (from - 1) 0 ≤ place → b ≡ true → b ≡ has_none m line
to_come d c m place from line b shows low high there same low_place so =
    let turn = shows.turns line.session (get_or c.behind (from - 1) 0) low high (far_so c.behind line.session from shows.sessions same low high) in
    so ∙ not_so (is_answered line.number m.answered) (behind_it (IsToCome m line.session) m.lines (get_or c.behind (from - 1) 0) place line turn.back low_place there refl).0

pub come_to : (d : DiskModel) (c : RunningCore) (m : Machine) (place from : ℕ) (line : Line) (hand : Option ℕ) (b : Bool) → ShowsMachine d c m → MachineKeeps m → 1 ≤ line.session → line.session ≤ 16
    → slice_get m.lines place ≡ Some line → from ≡ line.session → place < get_or c.behind (from - 1) 0
    → ((activity : Activity) → StandsAs c line.session activity → hand ≡ number_in_hand activity) → (IsTrue b ↔ (hand ≡ Some line.number)) → b ≡ has_none m line
come_to d c m place from line hand b shows kept low high there same before hand_is tells =
    let turn = shows.turns line.session (get_or c.behind (from - 1) 0) low high (far_so c.behind line.session from shows.sessions same low high) in
    let stands = hand_is (m.activity line.session) (shows.activities line.session (record { from_1 = low; to_19 = omega (arith, high) })) in
    let turns = kept.lines_in_sequence in
    by b tells stands (in_hand_open line.session m.answered m.lines (m.activity line.session) line.number (turns.in_hand line.session) (turns.awaited line.session))
    (in_front (IsDealtWith m line.session) m.lines (get_or c.behind (from - 1) 0) place line turn.front before there refl)
  where
    by : (b : Bool) → (IsTrue b ↔ (hand ≡ Some line.number)) → hand ≡ number_in_hand (m.activity line.session)
        → (number_in_hand (m.activity line.session) ≡ Some line.number → is_answered line.number m.answered ≡ false)
        → HasAnswer m line ⊎ (number_in_hand (m.activity line.session) ≡ Some line.number) → b ≡ has_none m line
    by true tells is unanswered dealt = sym (ap not (unanswered (sym is ∙ tells.0 refl)))
    by false tells is unanswered (inl answer) = sym (ap not answer)
    by false tells is unanswered (inr in_hand) = absurd (false≢true (tells.1 (is ∙ in_hand)))

-- one line more is counted
pub one_more : (m : Machine) (lines : List Line) (n : ℕ) (line : Line) (count one : ℕ) → n < length lines → line ≡ get_or lines n line → one ≡ cond (is_answered line.number m.answered) 0 1
    → count ≡ count_by (has_none m) (take n lines) → count + one ≡ count_by (has_none m) (take (n + 1) lines)
one_more m lines n line count one low is once counted = by (is_answered line.number m.answered) refl once
  where
    by : (x : Bool) → is_answered line.number m.answered ≡ x → one ≡ cond x 0 1 → count + one ≡ count_by (has_none m) (take (n + 1) lines)
    by true answered none =
        let off : has_none m (get_or lines n line) ≡ false = ap (has_none m) (sym is) ∙ ap not answered in
        omega (arith, counted, none, count_by_more_no (has_none m) lines n line low off)
    by false unanswered once =
        let so : has_none m (get_or lines n line) ≡ true = ap (has_none m) (sym is) ∙ ap not unanswered in
        omega (arith, counted, once, count_by_more_yes (has_none m) lines n line low so)

-- and so are the numbers
abbrev pub numbers : (Line → Bool) → List Line → List ℕ
numbers p lines = map (λ (l : Line). l.number) (filter p lines)

next_number : (p : Line → Bool) (lines : List Line) (n : ℕ) (line : Line) → n < length lines → line ≡ get_or lines n line → numbers p (take (n + 1) lines) ≡ numbers p (take n lines) ++ cond (p line) (line.number ∷ []) []
next_number p lines n line low is =
    let more : n + 1 ≡ suc n = omega arith in
    let longer : take (n + 1) lines ≡ take n lines ++ line ∷ [] =
    ap (λ (k : ℕ). take k lines) more ∙ take-suc lines n line low ∙ ap (λ (l : Line). take n lines ++ l ∷ []) (sym is) in
    ap (λ (l : List Line). numbers p l) longer ∙ ap (λ (l : List Line). map (λ (x : Line). x.number) l) (filter-append p (take n lines) (line ∷ []))
    ∙ map-append (λ (x : Line). x.number) (filter p (take n lines)) (filter p (line ∷ [])) ∙ ap (λ (l : List ℕ). numbers p (take n lines) ++ l) (one (p line) refl)
  where
    one : (b : Bool) → p line ≡ b → numbers p (line ∷ []) ≡ cond b (line.number ∷ []) []
    one true so = ap (λ (b : Bool). map (λ (x : Line). x.number) (cond b (line ∷ []) [])) so
    one false off = ap (λ (b : Bool). map (λ (x : Line). x.number) (cond b (line ∷ []) [])) off

pub puts_one : (b x : Bool) (items new : List ℕ) (number : ℕ) → b ≡ true → b ≡ not x → new ≡ items ++ number ∷ [] → new ≡ items ++ cond x [] (number ∷ [])
puts_one b true items new number so is put = absurd (false≢true (sym is ∙ so))
puts_one b false items new number so is put = put

pub puts_none : (b x : Bool) (items : List ℕ) (number : ℕ) → b ≡ false → b ≡ not x → items ≡ items ++ cond x [] (number ∷ [])
puts_none b true items number off is = sym (append-nil items)
puts_none b false items number off is = absurd (false≢true (sym off ∙ is))

pub one_number : (m : Machine) (lines : List Line) (n : ℕ) (line : Line) (first items new : List ℕ) → n < length lines → line ≡ get_or lines n line
    → new ≡ items ++ cond (is_answered line.number m.answered) [] (line.number ∷ []) → items ≡ first ++ numbers (has_none m) (take n lines) → new ≡ first ++ numbers (has_none m) (take (n + 1) lines)
one_number m lines n line first items new low is put before =
    put ∙ ap (λ (l : List ℕ). l ++ cond (is_answered line.number m.answered) [] (line.number ∷ [])) before
    ∙ append_assoc first (numbers (has_none m) (take n lines)) (cond (is_answered line.number m.answered) [] (line.number ∷ []))
    ∙ ap (λ (l : List ℕ). first ++ (numbers (has_none m) (take n lines) ++ l)) (turned (is_answered line.number m.answered))
    ∙ ap (λ (l : List ℕ). first ++ l) (sym (next_number (has_none m) lines n line low is))
  where
    turned : (x : Bool) → cond x [] (line.number ∷ []) ≡ cond (not x) (line.number ∷ []) []
    turned true = refl
    turned false = refl

-- the line at hand stands in the machine's script, too
there_so : (d : DiskModel) (c : RunningCore) (m : Machine) (shown : List Line) (place : ℕ) (line : Line) → ShowsMachine d c m → shown ≡ c.lines → place < length shown → line ≡ get_or shown place line
    → (place < length m.lines) × (line ≡ get_or m.lines place line)
there_so d c m shown place line shows is_shown low is =
    let same : shown ≡ m.lines = is_shown ∙ sym shows.lines in
    (subst (λ (l : List Line). place < length l) same low, subst (λ (l : List Line). line ≡ get_or l place line) same is)

pub count_step : (d : DiskModel) (c : RunningCore) (m : Machine) (shown : List Line) (place : ℕ) (line : Line) (count one : ℕ) → ShowsMachine d c m → shown ≡ c.lines → place < length shown → line ≡ get_or shown place line
    → (slice_get m.lines place ≡ Some line → one ≡ cond (is_answered line.number m.answered) 0 1) → count ≡ count_by (has_none m) (take place m.lines) → count + one ≡ count_by (has_none m) (take (place + 1) m.lines)
count_step d c m shown place line count one shows is_shown low is value counted =
    let there = there_so d c m shown place line shows is_shown low is in
    one_more m m.lines place line count one there.0 there.1 (value (slice_get_read m.lines (length m.lines) place line refl there.0 there.1)) counted

pub put_step : (d : DiskModel) (c : RunningCore) (m : Machine) (shown : List Line) (place : ℕ) (line : Line) (first items new : List ℕ) → ShowsMachine d c m → shown ≡ c.lines → place < length shown → line ≡ get_or shown place line
    → (slice_get m.lines place ≡ Some line → new ≡ items ++ cond (is_answered line.number m.answered) [] (line.number ∷ [])) → items ≡ first ++ numbers (has_none m) (take place m.lines)
    → new ≡ first ++ numbers (has_none m) (take (place + 1) m.lines)
put_step d c m shown place line first items new shows is_shown low is put before =
    let there = there_so d c m shown place line shows is_shown low is in
    one_number m m.lines place line first items new there.0 there.1 (put (slice_get_read m.lines (length m.lines) place line refl there.0 there.1)) before

-- behind the last line
pub put_all : (d : DiskModel) (c : RunningCore) (m : Machine) (shown : List Line) (place : ℕ) (first items : List ℕ) → ShowsMachine d c m → shown ≡ c.lines → length shown ≤ place
    → items ≡ first ++ numbers (has_none m) (take place m.lines) → items ≡ first ++ numbers (has_none m) m.lines
put_all d c m shown place first items shows is_shown high put =
    let same : shown ≡ m.lines = is_shown ∙ sym shows.lines in
    put ∙ ap (λ (l : List Line). first ++ numbers (has_none m) l) (take_all place m.lines (subst (λ (l : List Line). length l ≤ place) same high))

pub one_longer : (a b first n : ℕ) → a ≤ first + n → b ≤ a + 1 → b ≤ first + (n + 1)
one_longer a b first n few one = omega (arith, few, one)
