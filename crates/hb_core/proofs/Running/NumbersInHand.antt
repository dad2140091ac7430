-- The number of the line that an actor has in hand, or for whose place it waits: what a deed makes of it.
use Rattle.hb_core.proofs.Running.Names.{◌≡◌, ◌⊎◌, inl, inr, ℕ, List, Option, Some, None, IfSome, refl, sym, ap, ◌∙◌, subst, option_map, same_Some, value_and, Reply, Answered, Line, Activity, DropWhy, Job, Wanted, line_in_hand, Deed, answers_now, takes_job, LineFate, fate_row, gives_up, LinesInSequence, awaited_number, Machine, with_disk, outcome_of, Row, number_in_hand, IsWorking, next_line, IsMergingOf, IsPostingOf, StoreState}
use Rattle.std.specs.List.{Contains}
use Rattle.std.specs.Option.{IsSomeAnd}
use Rattle.hb_activity.specs.declared.activities.Activity.TheVariants as at
use Rattle.hb_activity.specs.Deeds.{Answers}
use Rattle.hb_steps.proofs.Facts.NextLines.{next_is}
use Rattle.hb_steps.proofs.Table.LineFates.{Waits, fate_given_up}
use Rattle.hb_steps.proofs.Facts.StepKinds.{IsQuiet}

-- It stays in hand, and nothing is answered; or it is answered, and isn't in hand any more.
pub record IsAnswered (activity : Activity) (deed : Deed) : Type 0 where
  pub number : ℕ
  pub reply : Reply
  pub says : deed.says ≡ Answers number reply
  pub was : number_in_hand activity ≡ Some number
  pub none : number_in_hand deed.next ≡ None

abbrev pub NumberFate : Activity → Deed → Type 0
NumberFate activity deed = (IsQuiet (outcome_of deed.says) × (number_in_hand deed.next ≡ number_in_hand activity)) ⊎ IsAnswered activity deed

-- the number is that of the line in hand, where nothing is awaited
pub number_of_hand : (activity : Activity) → (Waits activity → ⊥) → number_in_hand activity ≡ option_map (λ (l : Line). l.number) (line_in_hand activity)
number_of_hand (at.SessionWalk line held rest found) none = refl
number_of_hand (at.SessionSplit line held) none = refl
number_of_hand (at.SessionPut line source fresh) none = refl
number_of_hand (at.SessionAwait number reply place) none = absurd (none tt)
number_of_hand other none = refl

pub working_waits_not : (activity : Activity) → IsWorking activity → Waits activity → ⊥
working_waits_not (at.SessionAwait number reply place) works waits = works
working_waits_not other works waits = waits

-- what becomes of a line, said of its number
pub number_fate : (m : Machine) (activity : Activity) (deed : Deed) → (Waits activity → ⊥) → LineFate m activity deed → NumberFate activity deed
number_fate m activity deed none (inl goes) =
    inl (goes.quiet, number_of_hand deed.next goes.awaits ∙ ap (λ (o : Option Line). option_map (λ (l : Line). l.number) o) goes.hand ∙ sym (number_of_hand activity none))
number_fate m activity deed none (inr (inl takes)) =
    inl (takes.quiet, ap number_in_hand takes.next ∙ sym (number_of_hand activity none ∙ ap (λ (o : Option Line). option_map (λ (l : Line). l.number) o) takes.hand))
number_fate m activity deed none (inr (inr gives)) = inr (record {
  number = gives.line.number;
  reply = gives.reply;
  says = gives.says;
  was = number_of_hand activity none ∙ ap (λ (o : Option Line). option_map (λ (l : Line). l.number) o) gives.hand;
  none = ap number_in_hand gives.next;
})

pub given_up_number : (m : Machine) (why : DropWhy) (activity : Activity) → IsWorking activity → NumberFate activity (gives_up why activity)
given_up_number m why activity works = number_fate m activity (gives_up why activity) (working_waits_not activity works) (fate_given_up m why activity)

pub row_number : (m : Machine) (fetched : StoreState) (activity : Activity) (wanted : Option Wanted) (deed : Deed) → IsWorking activity → Row activity wanted (with_disk fetched m.files m.clock m) deed → NumberFate activity deed
row_number m fetched activity wanted deed works row = number_fate m activity deed (working_waits_not activity works) (fate_row m fetched activity wanted deed row)

-- a line that awaited its place is answered, and a job is no line
pub kept_number : (activity : Activity) (number : ℕ) (reply : Reply) → number_in_hand activity ≡ Some number → NumberFate activity (answers_now number reply)
kept_number activity number reply was = inr (record { number = number; reply = reply; says = refl; was = was; none = refl })

posting_number : (job : Job) (height : ℕ) (next : Activity) → IsPostingOf job height next → number_in_hand next ≡ None
posting_number job height next (inl (above, is)) = ap number_in_hand is
posting_number job height next (inr (inl (same, is))) = ap number_in_hand is
posting_number job height next (inr (inr (below, is))) = ap number_in_hand is

pub job_number : (activity : Activity) (job : Job) (height : ℕ) (next : Activity) → activity ≡ at.PosterIdle → IsPostingOf job height next → NumberFate activity (takes_job next job)
job_number activity job height next idle posting = inl (λ clock. refl, posting_number job height next posting ∙ sym (ap number_in_hand idle))

merging_number : (job : Job) (height : ℕ) (next : Activity) → IsMergingOf job height next → number_in_hand next ≡ None
merging_number job height next (inl (high, is)) = ap number_in_hand is
merging_number job height next (inr (below, is)) = ap number_in_hand is

pub merging_job_number : (activity : Activity) (job : Job) (height : ℕ) (next : Activity) → activity ≡ at.ConsolidatorIdle → IsMergingOf job height next → NumberFate activity (takes_job next job)
merging_job_number activity job height next idle merging = inl (λ clock. refl, merging_number job height next merging ∙ sym (ap number_in_hand idle))

-- the line of the number, which is its session's next one
own_line : (session : ℕ) (answered : List Answered) (lines : List Line) (activity : Activity) → IfSome (line_in_hand activity) (λ line. next_line session answered lines ≡ Some line)
    → IfSome (awaited_number activity) (λ number. IsSomeAnd (next_line session answered lines) (λ line. line.number ≡ number))
    → (number : ℕ) → number_in_hand activity ≡ Some number → (line : Line) × (next_line session answered lines ≡ Some line) × (line.number ≡ number)
own_line session answered lines (at.SessionWalk line held rest found) hand await number is = (line, hand, same_Some line.number number is)
own_line session answered lines (at.SessionSplit line held) hand await number is = (line, hand, same_Some line.number number is)
own_line session answered lines (at.SessionPut line source fresh) hand await number is = (line, hand, same_Some line.number number is)
own_line session answered lines (at.SessionAwait own reply place) hand await number is = value_and (next_line session answered lines) (λ line. line.number ≡ number) (subst (λ (n : ℕ). IsSomeAnd (next_line session answered lines) (λ line. line.number ≡ n)) (same_Some own number is) await)
own_line session answered lines other hand await number is = let never : None ≡ Some number = is in cc

pub line_of_number : (m : Machine) (actor : ℕ) → LinesInSequence m → (number : ℕ) → number_in_hand (m.activity actor) ≡ Some number → (line : Line) × Contains m.lines line × (line.session ≡ actor) × (line.number ≡ number)
line_of_number m actor turn number is =
    let own = own_line actor m.answered m.lines (m.activity actor) (turn.in_hand actor) (turn.awaited actor) number is in
    let next = next_is actor m.answered m.lines own.0 own.1 in
    (own.0, next.among, next.own, own.2)
