-- Which of a session's lines were dealt with, once a line was answered or nothing was.
use Rattle.hb_core.proofs.Running.Names.{◌≡◌, ◌≢◌, ◌⊎◌, inl, inr, ℕ, ◌≤◌, true, cond, List, [], ◌∷◌, ◌++◌, length, take, drop, Option, Some, None, refl, sym, ap, ◌∙◌, subst, append-nil, take-append-drop, All-contains, same_Some, Answered, Line, Activity, Deed, if_same, each_member, behind_front, Machine, with_activity, outcome_of, HasTurn, number_in_hand, is_answered, AreRising}
use Rattle.std.proofs.Common.{All}
use Rattle.std.specs.List.{Contains}
use Rattle.std.proofs.lemmas.List.Elements.{Contains-append_left}
use Rattle.hb_activity.specs.Deeds.{Says}
use Rattle.hb_steps.proofs.Facts.NextLines.{answered_before, now_answered, same_line, still_answered}
use Rattle.hb_core.proofs.Running.NumbersInHand.{NumberFate}
use Rattle.hb_steps.specs.Performing.{given_by}

-- The same of lists by themselves, and of the number that the session has in hand.
abbrev pub Dealt : List Answered → Option ℕ → ℕ → Line → Type 0
Dealt answered hand session line = line.session ≡ session → (is_answered line.number answered ≡ true) ⊎ (hand ≡ Some line.number)

abbrev pub ToCome : List Answered → Option ℕ → ℕ → Line → Type 0
ToCome answered hand session line = line.session ≡ session → (is_answered line.number answered ≡ true → ⊥) × (hand ≢ Some line.number)

pub record TurnAt (lines : List Line) (answered : List Answered) (hand : Option ℕ) (session behind : ℕ) : Type 0 where
  pub few : behind ≤ length lines
  pub front : All (Dealt answered hand session) (take behind lines)
  pub back : All (ToCome answered hand session) (drop behind lines)

pub turn_at : (m : Machine) (session behind : ℕ) → HasTurn m session behind → TurnAt m.lines m.answered (number_in_hand (m.activity session)) session behind
turn_at m session behind turn = record { few = turn.few; front = turn.front; back = turn.back }

pub has_turn : (m : Machine) (session behind : ℕ) → TurnAt m.lines m.answered (number_in_hand (m.activity session)) session behind → HasTurn m session behind
has_turn m session behind turn = record { few = turn.few; front = turn.front; back = turn.back }

-- what holds of each line on either side, where it held of each, a line of the script
module _ (lines : List Line) (behind : ℕ) where
  pub in_front : (line : Line) → Contains (take behind lines) line → Contains lines line
  in_front line there = subst (λ (l : List Line). Contains l line) (take-append-drop behind lines) (Contains-append_left (take behind lines) (drop behind lines) line there)

module _ (lines : List Line) (answered : List Answered) (a : Answered) where
  more_dealt : (before after : Option ℕ) (session behind : ℕ) → ((line : Line) → Contains lines line → Dealt answered before session line → Dealt (answered ++ a ∷ []) after session line)
      → ((line : Line) → Contains lines line → ToCome answered before session line → ToCome (answered ++ a ∷ []) after session line)
      → TurnAt lines answered before session behind → TurnAt lines (answered ++ a ∷ []) after session behind
  more_dealt before after session behind front back turn = record {
    few = turn.few;
    front = each_member (Dealt (answered ++ a ∷ []) after session) (take behind lines)
        (λ line there. front line (in_front lines behind line there) (All-contains (Dealt answered before session) (take behind lines) line turn.front there));
    back = each_member (ToCome (answered ++ a ∷ []) after session) (drop behind lines)
        (λ line there. back line (behind_front behind lines line there) (All-contains (ToCome answered before session) (drop behind lines) line turn.back there));
  }

  -- a line of another session was answered
  pub answered_elsewhere : (own : Line) (hand : Option ℕ) (session behind : ℕ) → AreRising lines → Contains lines own → a.line ≡ own.number → own.session ≢ session → TurnAt lines answered hand session behind → TurnAt lines (answered ++ a ∷ []) hand session behind
  answered_elsewhere own hand session behind rising among number other turn = more_dealt hand hand session behind front back turn
    where
      apart : (line : Line) → Contains lines line → line.session ≡ session → a.line ≢ line.number
      apart line there of_session same =
          let both : own ≡ line = same_line lines own line rising among there (sym number ∙ same) in
          other (ap (λ (l : Line). l.session) both ∙ of_session)

      front : (line : Line) → Contains lines line → Dealt answered hand session line → Dealt (answered ++ a ∷ []) hand session line
      front line there before own = by (before own)
        where
          by : (is_answered line.number answered ≡ true) ⊎ (hand ≡ Some line.number) → (is_answered line.number (answered ++ a ∷ []) ≡ true) ⊎ (hand ≡ Some line.number)
          by (inl done) = inl (still_answered line.number answered a done)
          by (inr held) = inr held

      back : (line : Line) → Contains lines line → ToCome answered hand session line → ToCome (answered ++ a ∷ []) hand session line
      back line there before own = (λ done. by (answered_before line.number answered a done), (before own).1)
        where
          by : (is_answered line.number answered ≡ true) ⊎ (a.line ≡ line.number) → ⊥
          by (inl done) = (before own).0 done
          by (inr same) = apart line there own same

  -- the line in hand was answered
  pub answered_here : (session behind : ℕ) → TurnAt lines answered (Some a.line) session behind → TurnAt lines (answered ++ a ∷ []) None session behind
  answered_here session behind turn = more_dealt (Some a.line) None session behind front back turn
    where
      front : (line : Line) → Contains lines line → Dealt answered (Some a.line) session line → Dealt (answered ++ a ∷ []) None session line
      front line there before own = by (before own)
        where
          by : (is_answered line.number answered ≡ true) ⊎ (Some a.line ≡ Some line.number) → (is_answered line.number (answered ++ a ∷ []) ≡ true) ⊎ (None ≡ Some line.number)
          by (inl done) = inl (still_answered line.number answered a done)
          by (inr held) = inl (now_answered line.number answered a (same_Some a.line line.number held))

      back : (line : Line) → Contains lines line → ToCome answered (Some a.line) session line → ToCome (answered ++ a ∷ []) None session line
      back line there before own = (λ done. by (answered_before line.number answered a done), λ never. cc)
        where
          by : (is_answered line.number answered ≡ true) ⊎ (a.line ≡ line.number) → ⊥
          by (inl done) = (before own).0 done
          by (inr same) = (before own).1 (ap Some same)

-- A deed of an actor: the number that it has in hand stays there, or is answered.
module _ (lines : List Line) (answered : List Answered) (activity : ℕ → Activity) (actor : ℕ) (deed : Deed) (clock : ℕ) (rising : AreRising lines) where
  abbrev TurnThen : ℕ → ℕ → Activity → Type 0
  TurnThen session behind next = TurnAt lines (answered ++ given_by (outcome_of deed.says) clock) (number_in_hand next) session behind

  pub turn_after : ((number : ℕ) → number_in_hand (activity actor) ≡ Some number → (line : Line) × Contains lines line × (line.session ≡ actor) × (line.number ≡ number)) → NumberFate (activity actor) deed
      → (session behind : ℕ) → TurnAt lines answered (number_in_hand (activity session)) session behind → TurnThen session behind (with_activity actor deed.next activity session)
  turn_after own (inl stays) session behind turn =
      let none : answered ++ given_by (outcome_of deed.says) clock ≡ answered = ap (λ (l : List Answered). answered ++ l) (stays.0 clock) ∙ append-nil answered in
      subst (λ (l : List Answered). TurnAt lines l (number_in_hand (with_activity actor deed.next activity session)) session behind) (sym none)
      (subst (λ (o : Option ℕ). TurnAt lines answered o session behind)
      (if_same session actor (λ b. number_in_hand (activity session) ≡ number_in_hand (cond b deed.next (activity session)))
      (λ same. ap (λ (n : ℕ). number_in_hand (activity n)) same ∙ sym stays.1) (λ other. refl)) turn)
  turn_after own (inr gives) session behind turn =
      let a : Answered = record { line = gives.number; reply = gives.reply; at = clock } in
      let line = own gives.number gives.was in
      subst (λ (o : Says). TurnAt lines (answered ++ given_by (outcome_of o) clock) (number_in_hand (with_activity actor deed.next activity session)) session behind) (sym gives.says)
      (if_same session actor (λ b. TurnAt lines (answered ++ a ∷ []) (number_in_hand (cond b deed.next (activity session))) session behind)
      (λ same. subst (λ (o : Option ℕ). TurnAt lines (answered ++ a ∷ []) o session behind) (sym gives.none)
      (answered_here lines answered a session behind (subst (λ (o : Option ℕ). TurnAt lines answered o session behind) (ap (λ (n : ℕ). number_in_hand (activity n)) same ∙ gives.was) turn)))
      (λ other. answered_elsewhere lines answered a line.0 (number_in_hand (activity session)) session behind rising line.1 (sym line.3) (λ same. other (sym same ∙ line.2)) turn))
