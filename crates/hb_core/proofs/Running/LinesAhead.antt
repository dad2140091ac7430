-- The next line of a session, and its turn once that is taken.
use Rattle.hb_core.proofs.Running.Names.{◌≡◌, ◌≢◌, ◌⊎◌, inl, inr, ℕ, zero, suc, ◌<◌, ◌≤◌, ◌+◌, ◌==◌, ◌&&◌, not, Bool, true, false, cond, List, [], ◌∷◌, ◌++◌, length, take, drop, Some, None, refl, sym, ap, ◌∙◌, subst, arith, eq-eqb, eqb-true, false≢true, take-append-drop, take_all, All-contains, All-head, All-weaker, slice_get_within, each_member, Answered, Line, is_answered, next_line, AreRising}
use Rattle.std.proofs.Common.{slice_get, All, length-append}
use Rattle.std.proofs.lemmas.Bool.{false_from_ne_true}
use Rattle.std.proofs.lemmas.List.{append_assoc, drop_all, drop_at, length-take-le, take_at}
use Rattle.std.proofs.lemmas.List.Elements.{All-append, All-tail}
use Rattle.hb_lemmas.proofs.Lists.{All-alone, All-behind}
use Rattle.hb_steps.proofs.Facts.NextLines.{above_all}
use Rattle.hb_core.proofs.Running.TurnsAfter.{Dealt, ToCome, TurnAt}

-- ---- what the next line is

-- a line that isn't next: of another session, or answered
abbrev pub IsPassed : List Answered → ℕ → Line → Type 0
IsPassed answered session line = line.session ≡ session → is_answered line.number answered ≡ true

passed_over : (own done : Bool) → (own ≡ true → done ≡ true) → (own && not done) ≡ false
passed_over false done passed = refl
passed_over true true passed = refl
passed_over true false passed = absurd (false≢true (passed refl))

pub next_behind : (session : ℕ) (answered : List Answered) (front back : List Line) → All (IsPassed answered session) front → next_line session answered (front ++ back) ≡ next_line session answered back
next_behind session answered [] back passed = refl
next_behind session answered (x ∷ front) back passed =
    ap (λ (b : Bool). cond b (Some x) (next_line session answered (front ++ back)))
    (passed_over (x.session == session) (is_answered x.number answered) (λ own. All-head (IsPassed answered session) x front passed (eqb-true x.session session own)))
    ∙ next_behind session answered front back (All-tail (IsPassed answered session) x front passed)

pub none_next : (session : ℕ) (answered : List Answered) (lines : List Line) → All (IsPassed answered session) lines → next_line session answered lines ≡ None
none_next session answered [] passed = refl
none_next session answered (x ∷ lines) passed =
    ap (λ (b : Bool). cond b (Some x) (next_line session answered lines))
    (passed_over (x.session == session) (is_answered x.number answered) (λ own. All-head (IsPassed answered session) x lines passed (eqb-true x.session session own)))
    ∙ none_next session answered lines (All-tail (IsPassed answered session) x lines passed)

next_here : (session : ℕ) (answered : List Answered) (line : Line) (rest : List Line) → line.session ≡ session → (is_answered line.number answered ≡ true → ⊥) → next_line session answered (line ∷ rest) ≡ Some line
next_here session answered line rest own left =
    ap (λ (b : Bool). cond (b && not (is_answered line.number answered)) (Some line) (next_line session answered rest)) (eq-eqb line.session session own)
    ∙ ap (λ (b : Bool). cond (not b) (Some line) (next_line session answered rest)) (false_from_ne_true (is_answered line.number answered) left)

-- ---- where the next line stands

pub parts_at : {X : Type 0} (xs : List X) (place : ℕ) (x : X) → slice_get xs place ≡ Some x → xs ≡ take place xs ++ x ∷ drop (suc place) xs
parts_at [] place x is = absurd cc
parts_at (y ∷ xs) zero x is = let same : y ≡ x = cc in ap (λ (z : _). z ∷ xs) same
parts_at (y ∷ xs) (suc place) x is = ap (λ (l : List _). y ∷ l) (parts_at xs place x is)

rising_behind : (front back : List Line) → AreRising (front ++ back) → AreRising back
rising_behind [] back rising = rising
rising_behind (x ∷ front) back rising = rising_behind front back rising.1

nothing_held : (answered : List Answered) (session : ℕ) (line : Line) → Dealt answered None session line → IsPassed answered session line
nothing_held answered session line dealt own = by (dealt own)
  where
    by : (is_answered line.number answered ≡ true) ⊎ (None ≡ Some line.number) → is_answered line.number answered ≡ true
    by (inl done) = done
    by (inr never) = absurd cc

module _ (lines : List Line) (answered : List Answered) (session behind : ℕ) (turn : TurnAt lines answered None session behind) where
  front_passed : All (IsPassed answered session) (take behind lines)
  front_passed = All-weaker (Dealt answered None session) (IsPassed answered session) (λ line dealt. nothing_held answered session line dealt) (take behind lines) turn.front

  -- none is left
  pub none_ahead : All (λ (l : Line). l.session ≢ session) (drop behind lines) → next_line session answered lines ≡ None
  none_ahead others = none_next session answered lines (subst (λ (l : List Line). All (IsPassed answered session) l) (take-append-drop behind lines)
      (All-append (IsPassed answered session) (take behind lines) (drop behind lines) front_passed
      (All-weaker (λ (l : Line). l.session ≢ session) (IsPassed answered session) (λ line other own. absurd (other own)) (drop behind lines) others)))

  -- then all lines lie behind the session, and none is to come
  pub turn_at_end : All (λ (l : Line). l.session ≢ session) (drop behind lines) → TurnAt lines answered None session (length lines)
  turn_at_end others = record {
    few = omega arith;
    front = subst (λ (l : List Line). All (Dealt answered None session) l) (take-append-drop behind lines ∙ sym (take_all (length lines) lines (omega arith)))
        (All-append (Dealt answered None session) (take behind lines) (drop behind lines) turn.front
        (All-weaker (λ (l : Line). l.session ≢ session) (Dealt answered None session) (λ l other own. absurd (other own)) (drop behind lines) others));
    back = subst (λ (l : List Line). All (ToCome answered None session) l) (sym (drop_all (length lines) lines (omega arith))) (λ k d lt. absurd (omega (arith, lt)));
  }

  module _ (place : ℕ) (line : Line) (rising : AreRising lines) (skipped : All (λ (l : Line). l.session ≢ session) (take place (drop behind lines))) (there : slice_get (drop behind lines) place ≡ Some line) (own : line.session ≡ session) where
    abbrev over : List Line
    over = take place (drop behind lines)

    abbrev rest : List Line
    rest = drop (suc place) (drop behind lines)

    back_is : drop behind lines ≡ over ++ line ∷ rest
    back_is = parts_at (drop behind lines) place line there

    back_to_come : All (ToCome answered None session) (over ++ line ∷ rest)
    back_to_come = subst (λ (l : List Line). All (ToCome answered None session) l) back_is turn.back

    here_to_come : All (ToCome answered None session) (line ∷ rest)
    here_to_come = All-behind (ToCome answered None session) over (line ∷ rest) back_to_come

    over_passed : All (IsPassed answered session) over
    over_passed = All-weaker (λ (l : Line). l.session ≢ session) (IsPassed answered session) (λ l other same. absurd (other same)) over skipped

    -- it is the next one
    pub next_ahead : next_line session answered lines ≡ Some line
    next_ahead = ap (next_line session answered) (sym (take-append-drop behind lines))
        ∙ next_behind session answered (take behind lines) (drop behind lines) front_passed
        ∙ ap (next_line session answered) back_is
        ∙ next_behind session answered over (line ∷ rest) over_passed
        ∙ next_here session answered line rest own ((All-head (ToCome answered None session) line rest here_to_come) own).0

    abbrev ahead : List Line
    ahead = take behind lines ++ (over ++ line ∷ [])

    whole : lines ≡ ahead ++ rest
    whole = sym (take-append-drop behind lines) ∙ ap (λ (l : List Line). take behind lines ++ l) (back_is ∙ sym (append_assoc over (line ∷ []) rest)) ∙ sym (append_assoc (take behind lines) (over ++ line ∷ []) rest)

    ahead_long : length ahead ≡ behind + place + 1
    ahead_long =
        let first = length-take-le behind lines turn.few in
        let within = slice_get_within (drop behind lines) place line there in
        let second = length-take-le place (drop behind lines) (omega (arith, within)) in
        length-append (take behind lines) (over ++ line ∷ []) ∙ ap (λ (n : ℕ). length (take behind lines) + n) (length-append over (line ∷ []))
        ∙ omega (arith, first, second)

    rest_above : All (λ (l : Line). line.number < l.number) rest
    rest_above =
        let risen = rising_behind (take behind lines ++ over) (line ∷ rest) (subst AreRising (whole ∙ regroup) rising) in
        each_member (λ (l : Line). line.number < l.number) rest (λ l among. above_all line rest l risen.0 among)
      where
        regroup : ahead ++ rest ≡ (take behind lines ++ over) ++ line ∷ rest
        regroup = ap (λ (l : List Line). l ++ rest) (sym (append_assoc (take behind lines) over (line ∷ []))) ∙ append_assoc (take behind lines ++ over) (line ∷ []) rest

    ahead_dealt : All (Dealt answered (Some line.number) session) ahead
    ahead_dealt = All-append (Dealt answered (Some line.number) session) (take behind lines) (over ++ line ∷ [])
        (All-weaker (IsPassed answered session) (Dealt answered (Some line.number) session) (λ l passed same. inl (passed same)) (take behind lines) front_passed)
        (All-append (Dealt answered (Some line.number) session) over (line ∷ [])
        (All-weaker (IsPassed answered session) (Dealt answered (Some line.number) session) (λ l passed same. inl (passed same)) over over_passed)
        (All-alone (Dealt answered (Some line.number) session) line (λ same. inr refl)))

    rest_to_come : All (ToCome answered (Some line.number) session) rest
    rest_to_come = each_member (ToCome answered (Some line.number) session) rest (λ l among same. (
      (All-contains (ToCome answered None session) rest l (All-tail (ToCome answered None session) line rest here_to_come) among same).0,
      λ held. let equal : line.number ≡ l.number = cc in let above = All-contains (λ (l : Line). line.number < l.number) rest l rest_above among in omega (arith, equal, above),
    ))

    -- the session's turn with the line in hand
    pub turn_with : TurnAt lines answered (Some line.number) session (behind + place + 1)
    turn_with = record {
      few = subst (λ (l : List Line). behind + place + 1 ≤ length l) (sym whole) (let long = length-append ahead rest in omega (arith, ahead_long, long));
      front = subst (λ (l : List Line). All (Dealt answered (Some line.number) session) l) (sym (take_at ahead rest (behind + place + 1) ahead_long) ∙ ap (take (behind + place + 1)) (sym whole)) ahead_dealt;
      back = subst (λ (l : List Line). All (ToCome answered (Some line.number) session) l) (sym (drop_at ahead rest (behind + place + 1) ahead_long) ∙ ap (drop (behind + place + 1)) (sym whole)) rest_to_come;
    }
