-- Somebody may always go on: of the actors at work one isn't kept waiting; and where nobody is at work, an idle one with something to
-- do goes on.
use Rattle.hb_steps.proofs.Walks.Names.{◌≡◌, ◌≢◌, ◌⊎◌, inl, inr, ℕ, zero, suc, ◌<◌, ◌≤◌, ◌==◌, ◌&&◌, not, Bool, true, false, cond, List, ◌∷◌, Option, Some, None, IsTrue, IsSome, IfSome, IsSomeAnd, refl, sym, ap, ◌∙◌, subst, arith, [], Contains, cases_Bool, eq-eqb, eqb-false, eqb-true, All-contains, Mode, goes_beside, IsLeastInTheWay, IsActor, Line, Job, Wanted, Activity, BoxLock, Deed, next_line, StoreState, Outcome, holder_may, may_or_not, wanted_by, HasNobodyElse, LineFits, Files, Machine, modes, Performs, IsAtRest, StepsTo, HasWorkLeft, IsKeptWaiting}
use Rattle.std.proofs.Common.{ne_eqb}
use Rattle.std.specs.Prelude.{MatchOption}
use Rattle.std.proofs.lemmas.Bool.{false≢true}
use Rattle.hb_latch.specs.Tables.{IsGrantable, KeepsFrom, HeldModes}
use Rattle.hb_latch.proofs.Facts.InTheWay.{nobody_keeps, none_keeps}
use Rattle.hb_set.specs.declared.commands.Reply.{Reply}
use Rattle.hb_set.specs.declared.scripts.Answered.{Answered}
use Rattle.hb_activity.specs.declared.jobs.JobKind.{JobKind}
use Rattle.hb_activity.specs.declared.jobs.JobKind.TheVariants.{Merge, Post}
use Rattle.hb_activity.specs.declared.activities.Activity.TheVariants as at
use Rattle.hb_activity.specs.Classes.{Consolidators, Flushers, Posters, Sessions, class_of, idle_of}
use Rattle.hb_activity.specs.Deeds.{Answers, Drops, GoesOn, Says}
use Rattle.hb_point.specs.SessionRows.{is_answered}
use Rattle.hb_store.specs.declared.stops.StopWhy.{StopWhy}
use Rattle.hb_set.specs.Machine.{RecordSet}
use Rattle.hb_steps.specs.declared.outcomes.Outcome.TheVariants as outcomes
use Rattle.hb_steps.proofs.Walks.LockHolders.{holder_works}
use Rattle.hb_steps.proofs.Walks.NoCircle.{held_there}
use Rattle.hb_steps.proofs.Walks.SomebodyFree.{somebody_goes_on}
use Rattle.hb_steps.specs.Asking.{HasWayFree}
use Rattle.hb_steps.specs.Forcing.{FlushesOnce, ForcesAll, StaysSo}
use Rattle.hb_steps.specs.KeptFits.{class_for}
use Rattle.hb_steps.specs.Locking.{HasBoxFree}
use Rattle.hb_steps.specs.KeptMachine.{CoreKeeps}
use Rattle.hb_steps.specs.Performing.{outcome_of}
use Rattle.hb_steps.specs.ProgressLaws.{GoesForward, GoesOnNow, HasSomethingLeft, SomebodyGoesOnNow}
use Rattle.hb_steps.specs.Steps.{AwaitsPlace, BeginsLine, StepsAs, TakesJobToMerge, TakesPosting, Works}

-- ---- whether an actor rests, and whether it is kept waiting

rests_or_not : (activity : Activity) → IsAtRest activity ⊎ (¬ (IsAtRest activity))
rests_or_not at.SessionIdle = inl tt
rests_or_not at.PosterIdle = inl tt
rests_or_not at.ConsolidatorIdle = inl tt
rests_or_not at.Flusher = inl tt
rests_or_not activity = inr (λ never. never)

-- below a number one further on: below it, or it
below_or_at : (a n : ℕ) → a < suc n → (a < n) ⊎ (a ≡ n)
below_or_at a n lt = elim (cases_Bool (a == n)) [
  | inl same ↦ inr (eqb-true a n same)
  | inr off ↦ let apart = eqb-false a n off in inl (omega (arith, lt, apart))
]

module _ (modes : HeldModes) (actor page : ℕ) (mode : Mode) where
  conflict_or_not : (o : Option Mode) → IsSomeAnd o (λ held. ¬ (IsTrue (goes_beside mode held))) ⊎ (¬ (IsSomeAnd o (λ held. ¬ (IsTrue (goes_beside mode held)))))
  conflict_or_not None = inr (λ never. never)
  conflict_or_not (Some held) = elim (cases_Bool (goes_beside mode held)) [
    | inl beside ↦ inr (λ apart. apart beside)
    | inr apart ↦ inl (λ beside. false≢true (sym apart ∙ beside))
  ]

  keeps_or_not : (other : ℕ) → KeepsFrom modes actor page mode other ⊎ (¬ (KeepsFrom modes actor page mode other))
  keeps_or_not other = elim (cases_Bool (other == actor)) [
    | inl same ↦ inr (λ keeps. keeps.another (eqb-true other actor same))
    | inr off ↦ elim (conflict_or_not (modes other page)) [
      | inl conflict ↦ inl (record { another = eqb-false other actor off; conflict = conflict })
      | inr none ↦ inr (λ keeps. none keeps.conflict)
    ]
  ]

  -- the least actor in the way, below a number
  least_below : (n : ℕ) → ((earlier : ℕ) → earlier < n → ¬ (KeepsFrom modes actor page mode earlier)) ⊎ ((by : ℕ) × IsLeastInTheWay modes actor page mode by)
  least_below zero = inl (λ earlier lt. absurd (omega (arith, lt)))
  least_below (suc n) = elim (least_below n) [
    | inr found ↦ inr found
    | inl none ↦ elim (keeps_or_not n) [
      | inl keeps ↦ inr (n, record { keeps = keeps; least = none })
      | inr not_it ↦ inl (λ earlier lt. elim (below_or_at earlier n lt) [
        | inl below ↦ none earlier below
        | inr is ↦ subst (λ (k : ℕ). ¬ (KeepsFrom modes actor page mode k)) (sym is) not_it
      ])
    ]
  ]

module _ (m : Machine) (none_else : HasNobodyElse m) where
  -- only the 19 actors hold latches
  nobody : (actor page : ℕ) (mode : Mode) → ((earlier : ℕ) → earlier < 20 → ¬ (KeepsFrom (modes m) actor page mode earlier)) → (other : ℕ) → ¬ (KeepsFrom (modes m) actor page mode other)
  nobody actor page mode none other keeps =
      let held = held_there (modes m other page) mode keeps.conflict in
      let last = (holder_may m none_else other page held.0 held.1).to_19 in
      none other (omega (arith, last)) keeps

  free_or_kept : (actor : ℕ) → HasWayFree m actor ⊎ IsKeptWaiting m actor
  free_or_kept actor = by (wanted_by m actor)
    where
      by : (o : Option Wanted) → IfSome o (λ wanted. IsGrantable (modes m) actor wanted.page wanted.mode) ⊎ ((by : ℕ) × IsSomeAnd o (λ wanted. IsLeastInTheWay (modes m) actor wanted.page wanted.mode by))
      by None = inl tt
      by (Some wanted) = elim (least_below (modes m) actor wanted.page wanted.mode 20) [
        | inl none ↦ inl (nobody_keeps (modes m) actor wanted.page wanted.mode (nobody actor wanted.page wanted.mode none))
        | inr found ↦ inr found
      ]

  -- ---- of the actors at work one isn't kept waiting, unless all are

  record IsFree (actor : ℕ) : Type 0 where
    pub works : HasWorkLeft m actor
    pub free : HasWayFree m actor

  works_or_not : (actor : ℕ) → HasWorkLeft m actor ⊎ (¬ (HasWorkLeft m actor))
  works_or_not actor = elim (may_or_not actor) [
    | inl may ↦ elim (rests_or_not (m.activity actor)) [
      | inl rests ↦ inr (λ works. works.1 rests)
      | inr at_work ↦ inl (may, at_work)
    ]
    | inr outside ↦ inr (λ works. outside works.0)
  ]

  one_more : (n : ℕ) → IsFree n ⊎ (HasWorkLeft m n → IsKeptWaiting m n)
  one_more n = elim (free_or_kept n) [
    | inr kept ↦ inr (λ works. kept)
    | inl free ↦ elim (works_or_not n) [
      | inl works ↦ inl (record { works = works; free = free })
      | inr none ↦ inr (λ works. absurd (none works))
    ]
  ]

  first_free : (n : ℕ) → ((actor : ℕ) × IsFree actor) ⊎ ((other : ℕ) → other < n → HasWorkLeft m other → IsKeptWaiting m other)
  first_free zero = inr (λ other lt works. absurd (omega (arith, lt)))
  first_free (suc n) = elim (first_free n) [
    | inl found ↦ inl found
    | inr kept ↦ elim (one_more n) [
      | inl free ↦ inl (n, free)
      | inr waits ↦ inr (λ other lt works. elim (below_or_at other n lt) [
        | inl below ↦ kept other below works
        | inr is ↦ subst (IsKeptWaiting m) (sym is) (waits (subst (HasWorkLeft m) is works))
      ])
    ]
  ]

-- ---- an actor whose way is free goes on

said_forward : (says : Says) → GoesForward (outcome_of says)
said_forward GoesOn = tt
said_forward (Answers number reply) = tt
said_forward (Drops why) = tt

module _ (m : Machine) (actor : ℕ) (outcome : Outcome) (new : Machine) where
  forward_as : (said : Outcome) → GoesForward said → outcome ≡ said → GoesForward outcome
  forward_as said forward is = subst GoesForward (sym is) forward

  performed : (fetched : StoreState) (deed : Deed) → Performs m fetched actor deed outcome new → GoesForward outcome
  performed fetched deed performs = forward_as _ (said_forward deed.says) performs.says

  forced : (due : Outcome) → GoesForward due → ForcesAll m due outcome new → GoesForward outcome
  forced due forward (inl well) = forward_as due forward well.0
  forced due forward (inr badly) = forward_as _ tt badly.1.says

  flushed : (due : Outcome) (nothing : Type 0) → GoesForward due → (nothing → GoesForward outcome) → FlushesOnce m due nothing outcome new → GoesForward outcome
  flushed due nothing forward done (inl (waits, force)) = forced due forward force
  flushed due nothing forward done (inr (none, inl (page, oldest, inl well))) = forward_as due forward well.says
  flushed due nothing forward done (inr (none, inl (page, oldest, inr fails))) = forward_as _ tt fails.says
  flushed due nothing forward done (inr (none, inr (inl (old, inl turns)))) = forward_as due forward turns.says
  flushed due nothing forward done (inr (none, inr (inl (old, inr fails)))) = forward_as _ tt fails.says
  flushed due nothing forward done (inr (none, inr (inr (nothing_left, so)))) = done so

  -- nobody is in a way that is free
  not_kept : (o : Option Wanted) (by : ℕ) → IfSome o (λ wanted. IsGrantable (modes m) actor wanted.page wanted.mode) → IsSomeAnd o (λ wanted. IsLeastInTheWay (modes m) actor wanted.page wanted.mode by) → ⊥
  not_kept None by free never = never
  not_kept (Some wanted) by free least = none_keeps (modes m) actor wanted.page wanted.mode free by least.keeps

  worked : HasWayFree m actor → Works m actor outcome new → GoesForward outcome
  worked free (inl (by, way, so)) = absurd (not_kept (wanted_by m actor) by free way)
  worked free (inr (inl (way, unready, once))) = flushed outcomes.Helped ⊥ tt (λ never. absurd never) once
  worked free (inr (inr (way, ready, inl acts))) = performed acts.fetched acts.deed acts.performs
  worked free (inr (inr (way, ready, inr (inl gives)))) = performed gives.fetched _ gives.performs
  worked free (inr (inr (way, ready, inr (inr meets)))) = forward_as _ tt meets.says

  awaited : (number place : ℕ) (reply : Reply) → AwaitsPlace m actor number reply place outcome new → GoesForward outcome
  awaited number place reply (inl (settled, performs)) = performed m.store _ performs.0
  awaited number place reply (inr (waits, force)) = forced outcomes.Moved tt force

  stepped : (activity : Activity) → (¬ (IsAtRest activity)) → HasWayFree m actor → StepsAs activity m actor outcome new → GoesForward outcome
  stepped at.SessionIdle works free one = absurd (works tt)
  stepped at.PosterIdle works free one = absurd (works tt)
  stepped at.ConsolidatorIdle works free one = absurd (works tt)
  stepped at.Flusher works free one = absurd (works tt)
  stepped (at.SessionAwait number reply place) works free one = awaited number place reply one
  stepped activity works free one = worked free one

  -- an idle actor with something to do
  next_forward : ((lock : BoxLock) → HasBoxFree m actor lock) → (line : Option Line) → IsSome line → MatchOption line (StaysSo m outcomes.Idle outcome new) (λ line. BeginsLine m actor line outcome new) → GoesForward outcome
  next_forward free None some one = absurd (false≢true some)
  next_forward free (Some line) some (inl (by, way, so)) = absurd (free _ by way.keeps)
  next_forward free (Some line) some (inr (way, inl performs)) = performed m.store _ performs.0
  next_forward free (Some line) some (inr (way, inr (boxes, performs))) = performed m.store _ performs.0

  post_forward : (job : Job) → Contains m.jobs job → job.kind ≡ Post → TakesPosting m actor outcome new → GoesForward outcome
  post_forward job waits kind (inl (none, so)) = absurd (All-contains (λ (job : Job). job.kind ≢ Post) m.jobs job none waits kind)
  post_forward job waits kind (inr (deed, takes, performs)) = performed m.store deed performs.0

  merge_forward : (job : Job) → Contains m.jobs job → job.kind ≡ Merge → TakesJobToMerge m actor outcome new → GoesForward outcome
  merge_forward job waits kind (inl (none, so)) = absurd (All-contains (λ (job : Job). job.kind ≢ Merge) m.jobs job none waits kind)
  merge_forward job waits kind (inr (deed, takes, performs)) = performed m.store deed performs.0

-- ---- a line without an answer gives its session a next line

next_at : (session : ℕ) (answered : List Answered) (first line : Line) (rest : List Line) (b : Bool) → ((first.session == session) && not (is_answered first.number answered)) ≡ b → Contains (first ∷ rest) line → line.session ≡ session → is_answered line.number answered ≡ false
    → (Contains rest line → IsSome (next_line session answered rest)) → IsSome (cond b (Some first) (next_line session answered rest))
next_at session answered first line rest true test there own unanswered later = refl
next_at session answered first line rest false test (zero, lt, e) own unanswered later =
    let mine : (first.session == session) ≡ true = eq-eqb first.session session (ap (λ (l : Line). l.session) e ∙ own) in
    let first_too : is_answered first.number answered ≡ false = subst (λ (l : Line). is_answered l.number answered ≡ false) (sym e) unanswered in
    absurd (false≢true (sym test ∙ ap (λ (b : Bool). b && not (is_answered first.number answered)) mine ∙ ap not first_too))
next_at session answered first line rest false test (suc k, lt, e) own unanswered later = later (k, omega (arith, lt), e)

next_there : (session : ℕ) (answered : List Answered) (lines : List Line) (line : Line) → Contains lines line → line.session ≡ session → is_answered line.number answered ≡ false → IsSome (next_line session answered lines)
next_there session answered [] line (k, lt, e) own unanswered = absurd (omega (arith, lt))
next_there session answered (first ∷ rest) line there own unanswered =
    next_at session answered first line rest ((first.session == session) && not (is_answered first.number answered)) refl there own unanswered (λ later. next_there session answered rest line later own unanswered)

-- ---- who rests is idle

idle_so : (activity : Activity) → IsAtRest activity → activity ≡ idle_of (class_of activity)
idle_so at.SessionIdle rests = refl
idle_so at.PosterIdle rests = refl
idle_so at.ConsolidatorIdle rests = refl
idle_so at.Flusher rests = refl
idle_so activity rests = absurd rests

session_class : (actor : ℕ) → actor ≤ 16 → class_for actor ≡ Sessions
session_class actor le =
    let no_poster : actor ≢ 17 = λ is. omega (arith, le, is) in
    let no_merger : actor ≢ 18 = λ is. omega (arith, le, is) in
    let no_flusher : actor ≢ 19 = λ is. omega (arith, le, is) in
    ap (λ (b : Bool). cond b Posters (cond (actor == 18) Consolidators (cond (actor == 19) Flushers Sessions))) (ne_eqb actor 17 no_poster)
    ∙ ap (λ (b : Bool). cond b Consolidators (cond (actor == 19) Flushers Sessions)) (ne_eqb actor 18 no_merger)
    ∙ ap (λ (b : Bool). cond b Flushers Sessions) (ne_eqb actor 19 no_flusher)

-- ---- so somebody goes on

module _ (n : RecordSet) (m : Machine) (files : Files) (keeps : CoreKeeps n m files) (runs : m.stop ≡ None) where
  abbrev Somebody : Type 0
  Somebody = (actor : ℕ) × GoesOnNow m actor

  as_it_runs : (actor : ℕ) (outcome : Outcome) (new : Machine) → StepsTo m actor outcome new → StepsAs (m.activity actor) m actor outcome new
  as_it_runs actor outcome new step = subst (λ (o : Option StopWhy). MatchOption o (StepsAs (m.activity actor) m actor outcome new) (λ why. StaysSo m (outcomes.Stopped why) outcome new)) runs step

  as_idle : (actor : ℕ) (activity : Activity) → m.activity actor ≡ activity → (outcome : Outcome) (new : Machine) → StepsTo m actor outcome new → StepsAs activity m actor outcome new
  as_idle actor activity is outcome new step = subst (λ (a : Activity). StepsAs a m actor outcome new) is (as_it_runs actor outcome new step)

  rests_as : (actor : ℕ) → IsAtRest (m.activity actor) → m.activity actor ≡ idle_of (class_for actor)
  rests_as actor rests = idle_so (m.activity actor) rests ∙ ap idle_of (keeps.kept.classes actor)

  -- somebody at work goes on, or nobody is at work
  works_or_none : Somebody ⊎ ((actor : ℕ) → ¬ (HasWorkLeft m actor))
  works_or_none = elim (first_free m keeps.kept.nobody_else 20) [
    | inl (free, is) ↦ inl (
      free,
      record {
        may = is.works.0;
        to_do = inl is.works.1;
        forward = λ outcome new step. stepped m free outcome new (m.activity free) is.works.1 is.free (as_it_runs free outcome new step);
      },
    )
    | inr kept ↦ inr (λ actor works. somebody_goes_on m files actor keeps.kept.latches_fit keeps.sound_file keeps.kept.nobody_else keeps.kept.walk_in_space works
        (λ other busy. let last = busy.0.to_19 in kept other (omega (arith, last)) busy))
  ]

  at_work : (actor : ℕ) → HasWorkLeft m actor → Somebody
  at_work actor works = elim works_or_none [ inl somebody ↦ somebody | inr none ↦ absurd (none actor works) ]

  -- where nobody is at work, nobody has a box locked
  all_free : ((actor : ℕ) → ¬ (HasWorkLeft m actor)) → (actor : ℕ) (lock : BoxLock) → HasBoxFree m actor lock
  all_free none actor lock other out = none other (holder_works m actor other lock keeps.kept.nobody_else out)

  idle_takes : (actor : ℕ) → IsActor actor → m.activity actor ≡ at.SessionIdle → IsSome (next_line actor m.answered m.lines) → ((other : ℕ) → ¬ (HasWorkLeft m other)) → Somebody
  idle_takes actor may idle some none =
      (actor, record { may = may; to_do = inr (inl (idle, some)); forward = λ outcome new step. next_forward m actor outcome new (all_free none actor) _ some (as_idle actor at.SessionIdle idle outcome new step) })

  -- a line without an answer
  of_line : (line : Line) → Contains m.lines line → is_answered line.number m.answered ≡ false → Somebody
  of_line line there unanswered =
      let fits = All-contains (LineFits m.store.meta.k) m.lines line keeps.kept.attributes_fit.script there in
      let first = fits.first_session in
      let last = fits.last_session in
      let may : IsActor line.session = record { from_1 = first; to_19 = omega (arith, last) } in
      let some = next_there line.session m.answered m.lines line there refl unanswered in
      elim (rests_or_not (m.activity line.session)) [
        | inr works ↦ at_work line.session (may, works)
        | inl rests ↦
            let idle : m.activity line.session ≡ at.SessionIdle = rests_as line.session rests ∙ ap idle_of (session_class line.session last) in
            elim works_or_none [ inl somebody ↦ somebody | inr none ↦ idle_takes line.session may idle some none ]
      ]

  -- a job that waits
  of_posting : (job : Job) → Contains m.jobs job → job.kind ≡ Post → Somebody
  of_posting job waits kind =
      let may : IsActor 17 = record { from_1 = omega arith; to_19 = omega arith } in
      elim (rests_or_not (m.activity 17)) [
        | inr works ↦ at_work 17 (may, works)
        | inl rests ↦
            let idle : m.activity 17 ≡ at.PosterIdle = rests_as 17 rests in
            (17, record { may = may; to_do = inr (inr (inl (idle, job, waits, kind))); forward = λ outcome new step. post_forward m 17 outcome new job waits kind (as_idle 17 at.PosterIdle idle outcome new step) })
      ]

  of_merging : (job : Job) → Contains m.jobs job → job.kind ≡ Merge → Somebody
  of_merging job waits kind =
      let may : IsActor 18 = record { from_1 = omega arith; to_19 = omega arith } in
      elim (rests_or_not (m.activity 18)) [
        | inr works ↦ at_work 18 (may, works)
        | inl rests ↦
            let idle : m.activity 18 ≡ at.ConsolidatorIdle = rests_as 18 rests in
            (18, record { may = may; to_do = inr (inr (inr (idle, job, waits, kind))); forward = λ outcome new step. merge_forward m 18 outcome new job waits kind (as_idle 18 at.ConsolidatorIdle idle outcome new step) })
      ]

  of_job : (job : Job) (kind : JobKind) → job.kind ≡ kind → Contains m.jobs job → Somebody
  of_job job Post is waits = of_posting job waits is
  of_job job Merge is waits = of_merging job waits is

  of_left : HasSomethingLeft m → Somebody
  of_left (inl (line, there, unanswered)) = of_line line there unanswered
  of_left (inr (inl (job, waits))) = of_job job job.kind refl waits
  of_left (inr (inr (actor, may, works))) = at_work actor (may, works)

pub somebody_goes_on_now : SomebodyGoesOnNow
somebody_goes_on_now n m files keeps runs left = of_left n m files keeps runs left
