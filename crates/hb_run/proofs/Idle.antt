-- A session that finds nothing to do has no line left.
use Rattle.std.proofs.Common.{◌≡◌, ◌⊎◌, inl, inr, ℕ, ◌-◌, ◌≤◌, ◌==◌, Bool, true, false, cond, not, ◌&&◌, List, [], ◌∷◌, take, drop, get_or, All, Option, Some, None, IsTrue, MatchOption, refl, sym, ap, ◌∙◌, subst, arith, ne_eqb}
use Rattle.std.specs.List.{slice_get}
use Rattle.std.proofs.lemmas.Bool.{eq-eqb, not-false}
use Rattle.std.proofs.lemmas.List.{take-append-drop}
use Rattle.std.proofs.lemmas.List.Elements.{All-append, All-cons, All-drop, All-nil, All-weaker}
use Rattle.std.proofs.lemmas.Option.{none-some, same_Some, slice_get-get_or}
use Rattle.hb_space.specs.Actors.{IsActor}
use Rattle.hb_set.specs.declared.commands.Reply.{Reply}
use Rattle.hb_set.specs.declared.scripts.Answered.{Answered}
use Rattle.hb_set.specs.declared.scripts.Line.{Line}
use Rattle.hb_activity.specs.declared.activities.Activity.{Activity}
use Rattle.hb_activity.specs.declared.activities.Activity.TheVariants as at
use Rattle.hb_activity.specs.Classes.{Class, Consolidators, Flushers, Posters, Sessions, class_of}
use Rattle.hb_activity.specs.Deeds.{Answers, Deed, Drops, GoesOn, Says}
use Rattle.hb_disk.specs.Model.{DiskModel}
use Rattle.hb_point.specs.SessionRows.{is_answered, next_line}
use Rattle.hb_store.specs.declared.stops.StopWhy.{StopWhy}
use Rattle.hb_store.specs.States.{StoreState}
use Rattle.hb_steps.specs.declared.outcomes.Outcome.{Outcome}
use Rattle.hb_steps.specs.declared.outcomes.Outcome.TheVariants as outcomes
use Rattle.hb_steps.specs.Forcing.{FlushesOnce, ForcesAll, StaysSo}
use Rattle.hb_steps.specs.KeptFits.{class_for}
use Rattle.hb_steps.specs.KeptSequence.{HasAnswer}
use Rattle.hb_steps.specs.Machines.{Machine}
use Rattle.hb_steps.specs.Performing.{Performs, outcome_of}
use Rattle.hb_steps.specs.ProgressLaws.{GoesForward}
use Rattle.hb_steps.specs.Steps.{AwaitsPlace, BeginsLine, StepsAs, StepsTo, Works}
use Rattle.hb_core.specs.Showing.{HasTurn, IsDealtWith, IsToCome, RunningCore, ShowsMachine, number_in_hand}
use Rattle.hb_core.specs.Working.{MayStep}
use Rattle.hb_run.specs.Turning.{turn_of}
use Rattle.hb_run.specs.declared.turns.Turn.{Turn}
use Rattle.hb_run.specs.declared.turns.Turn.TheVariants as turns

-- ---- what an idle outcome says of a step

said_forward : (says : Says) → GoesForward (outcome_of says)
said_forward GoesOn = tt
said_forward (Answers number reply) = tt
said_forward (Drops why) = tt

abbrev IsKeptBack : Outcome → Type 0
IsKeptBack (outcomes.Blocked by) = Unit {0}
IsKeptBack other = ⊥

abbrev IsOfSessions : Class → Type 0
IsOfSessions Sessions = Unit {0}
IsOfSessions other = ⊥

abbrev IsIdle : Turn → Type 0
IsIdle turns.Idle = Unit {0}
IsIdle other = ⊥

-- the session has nothing in hand, and no next line
record FindsNothing (m : Machine) (actor : ℕ) : Type 0 where
  pub idle : m.activity actor ≡ at.SessionIdle
  pub none : next_line actor m.answered m.lines ≡ None

module _ (m : Machine) (actor : ℕ) (outcome : Outcome) (new : Machine) (says : outcome ≡ outcomes.Idle) where
  not_forward : (said : Outcome) → GoesForward said → outcome ≡ said → ⊥
  not_forward said forward is = subst GoesForward (sym is ∙ says) forward

  not_kept : (by : ℕ) → outcome ≡ outcomes.Blocked by → ⊥
  not_kept by is = subst IsKeptBack (sym is ∙ says) tt

  performed : (fetched : StoreState) (deed : Deed) → Performs m fetched actor deed outcome new → ⊥
  performed fetched deed performs = not_forward _ (said_forward deed.says) performs.says

  forced : (due : Outcome) → GoesForward due → ForcesAll m due outcome new → ⊥
  forced due forward (inl well) = not_forward due forward well.0
  forced due forward (inr badly) = not_forward _ tt badly.1.says

  flushed : FlushesOnce m outcomes.Helped ⊥ outcome new → ⊥
  flushed (inl (waits, force)) = forced outcomes.Helped tt force
  flushed (inr (none, inl (page, oldest, inl well))) = not_forward outcomes.Helped tt well.says
  flushed (inr (none, inl (page, oldest, inr fails))) = not_forward _ tt fails.says
  flushed (inr (none, inr (inl (old, inl turns)))) = not_forward outcomes.Helped tt turns.says
  flushed (inr (none, inr (inl (old, inr fails)))) = not_forward _ tt fails.says
  flushed (inr (none, inr (inr (all, never)))) = never

  worked : Works m actor outcome new → ⊥
  worked (inl (by, way, so)) = not_kept by so.0
  worked (inr (inl (way, unready, once))) = flushed once
  worked (inr (inr (way, ready, inl acts))) = performed acts.fetched acts.deed acts.performs
  worked (inr (inr (way, ready, inr (inl gives)))) = performed gives.fetched _ gives.performs
  worked (inr (inr (way, ready, inr (inr meets)))) = not_forward _ tt meets.says

  awaited : (number place : ℕ) (reply : Reply) → AwaitsPlace m actor number reply place outcome new → ⊥
  awaited number place reply (inl (settled, performs)) = performed m.store _ performs.0
  awaited number place reply (inr (waits, force)) = forced outcomes.Moved tt force

  took : (line : Option Line) → MatchOption line (StaysSo m outcomes.Idle outcome new) (λ line. BeginsLine m actor line outcome new) → (line ≡ None) × (new ≡ m)
  took None so = (refl, so.1)
  took (Some line) (inl (by, way, so)) = absurd (not_kept by so.0)
  took (Some line) (inr (free, inl performs)) = absurd (performed m.store _ performs.0)
  took (Some line) (inr (free, inr (boxes, performs))) = absurd (performed m.store _ performs.0)

  stepped : (activity : Activity) → m.activity actor ≡ activity → class_of activity ≡ Sessions → StepsAs activity m actor outcome new → FindsNothing m actor × (new ≡ m)
  stepped at.SessionIdle is class one = let so = took (next_line actor m.answered m.lines) one in (record { idle = is; none = so.0 }, so.1)
  stepped (at.SessionAwait number reply place) is class one = absurd (awaited number place reply one)
  stepped at.PosterIdle is class one = absurd (subst IsOfSessions (sym class) tt)
  stepped at.ConsolidatorIdle is class one = absurd (subst IsOfSessions (sym class) tt)
  stepped at.Flusher is class one = absurd (subst IsOfSessions (sym class) tt)
  stepped activity is class one = absurd (worked one)

  ran : (stop : Option StopWhy) → class_of (m.activity actor) ≡ Sessions → MatchOption stop (StepsAs (m.activity actor) m actor outcome new) (λ why. StaysSo m (outcomes.Stopped why) outcome new) → FindsNothing m actor × (new ≡ m)
  ran None class one = stepped (m.activity actor) refl class one
  ran (Some why) class so = absurd (not_forward _ tt so.0)

session_class : (actor : ℕ) → actor ≤ 16 → class_for actor ≡ Sessions
session_class actor le =
    ap (λ (b : Bool). cond b Posters (cond (actor == 18) Consolidators (cond (actor == 19) Flushers Sessions))) (ne_eqb actor 17 (λ is. omega (arith, le, is)))
    ∙ ap (λ (b : Bool). cond b Consolidators (cond (actor == 19) Flushers Sessions)) (ne_eqb actor 18 (λ is. omega (arith, le, is)))
    ∙ ap (λ (b : Bool). cond b Flushers Sessions) (ne_eqb actor 19 (λ is. omega (arith, le, is)))

-- the outcome of a turn that found nothing
was_idle : (outcome : Outcome) → turn_of outcome ≡ turns.Idle → outcome ≡ outcomes.Idle
was_idle outcomes.Idle is = refl
was_idle (outcomes.Stopped why) is = absurd (subst IsIdle (sym is) tt)
was_idle (outcomes.Blocked by) is = absurd (subst IsIdle (sym is) tt)
was_idle outcomes.Helped is = absurd (subst IsIdle (sym is) tt)
was_idle (outcomes.Answered number reply) is = absurd (subst IsIdle (sym is) tt)
was_idle (outcomes.Dropped why) is = absurd (subst IsIdle (sym is) tt)
was_idle outcomes.Moved is = absurd (subst IsIdle (sym is) tt)

-- ---- each line of the session has an answer

abbrev WhereOwn : ℕ → List Answered → Line → Type 0
WhereOwn session answered line = line.session ≡ session → IsTrue (is_answered line.number answered)

-- where none is next
none_next : (session : ℕ) (answered : List Answered) (lines : List Line) → next_line session answered lines ≡ None → All (WhereOwn session answered) lines
none_next session answered [] none = All-nil (WhereOwn session answered)
none_next session answered (line ∷ rest) none = by ((line.session == session) && not (is_answered line.number answered)) refl none (none_next session answered rest)
  where
    by : (b : Bool) → ((line.session == session) && not (is_answered line.number answered)) ≡ b → cond b (Some line) (next_line session answered rest) ≡ None → (next_line session answered rest ≡ None → All (WhereOwn session answered) rest)
        → All (WhereOwn session answered) (line ∷ rest)
    by true test some later = absurd (none-some line (sym some))
    by false test none later =
        All-cons (WhereOwn session answered) line rest
        (λ own. not-false (is_answered line.number answered) (sym (ap (λ (b : Bool). b && not (is_answered line.number answered)) (eq-eqb line.session session own)) ∙ test))
        (later none)

-- So it is in each machine that a core shows, where it is in one.
module _ (d : DiskModel) (c : RunningCore) (session : ℕ) (low : 1 ≤ session) (high : session ≤ 16) (found : Machine) (shows_found : ShowsMachine d c found) (nothing : FindsNothing found session) (m : Machine) (shows : ShowsMachine d c m) where
  abbrev behind : ℕ
  behind = get_or c.behind (session - 1) 0

  there : slice_get c.behind (session - 1) ≡ Some behind
  there = let sixteen = shows.sessions in slice_get-get_or c.behind (session - 1) 0 (omega (arith, sixteen, low, high))

  may : IsActor session
  may = record { from_1 = low; to_19 = omega (arith, high) }

  idle : m.activity session ≡ at.SessionIdle
  idle = same_Some (m.activity session) (found.activity session) (sym (shows.activities session may) ∙ shows_found.activities session may) ∙ nothing.idle

  turn : HasTurn m session behind
  turn = shows.turns session behind low high there

  turn_found : HasTurn found session behind
  turn_found = shows_found.turns session behind low high there

  dealt_with : (line : Line) → IsDealtWith m session line → WhereOwn session m.answered line
  dealt_with line dealt own = by (dealt own)
    where
      by : HasAnswer m line ⊎ (number_in_hand (m.activity session) ≡ Some line.number) → HasAnswer m line
      by (inl answer) = answer
      by (inr hand) = absurd (none-some line.number (sym (ap number_in_hand idle) ∙ hand))

  front : All (WhereOwn session m.answered) (take behind c.lines)
  front = All-weaker (IsDealtWith m session) (WhereOwn session m.answered) dealt_with (take behind c.lines) (subst (λ (ls : List Line). All (IsDealtWith m session) (take behind ls)) shows.lines turn.front)

  -- of the lines behind none is the session's
  none_behind : All (WhereOwn session found.answered) (drop behind c.lines)
  none_behind = All-drop (WhereOwn session found.answered) behind c.lines (subst (λ (ls : List Line). All (WhereOwn session found.answered) ls) shows_found.lines (none_next session found.answered found.lines nothing.none))

  to_come : All (IsToCome found session) (drop behind c.lines)
  to_come = subst (λ (ls : List Line). All (IsToCome found session) (drop behind ls)) shows_found.lines turn_found.back

  back : All (WhereOwn session m.answered) (drop behind c.lines)
  back k x within own = absurd ((to_come k x within own).0 (none_behind k x within own))

  all_answered : All (WhereOwn session m.answered) m.lines
  all_answered =
      subst (λ (ls : List Line). All (WhereOwn session m.answered) ls) (take-append-drop behind c.lines ∙ sym shows.lines)
      (All-append (WhereOwn session m.answered) (take behind c.lines) (drop behind c.lines) front back)

-- ---- so after its turn

pub no_line_left : (d e : DiskModel) (old new : RunningCore) (actor : ℕ) (outcome : Outcome) (turn : Turn) → ((m : Machine) × MayStep d old m) → ((m : Machine) → MayStep d old m → (next : Machine) × StepsTo m actor outcome next × ShowsMachine e new next)
    → IsActor actor → turn ≡ turn_of outcome → turn ≡ turns.Idle → actor ≤ 16 → (m : Machine) → ShowsMachine e new m → All (λ (line : Line). line.session ≡ actor → HasAnswer m line) m.lines
no_line_left d e old new actor outcome came (found, may) steps is turn_is said_idle le m shows =
    let step = steps found may in
    let said = was_idle outcome (sym turn_is ∙ said_idle) in
    let nothing = ran found actor outcome step.0 said found.stop (may.goes_on.kept.classes actor ∙ session_class actor le) step.1 in
    all_answered e new actor is.from_1 le step.0 step.2 (subst (λ (x : Machine). FindsNothing x actor) (sym nothing.1) nothing.0) m shows
