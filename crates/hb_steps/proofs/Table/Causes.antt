-- Why a line is refused, why a job ends, and what a step says of lines and jobs.
use Rattle.hb_steps.proofs.Table.Names.{◌≡◌, ◌⊎◌, inl, inr, ℕ, List, Option, Some, None, IsSomeAnd, refl, sym, ap, ◌∙◌, subst, ◌≤◌, arith, Contains, same_Some, Reply, Line, DropWhy, Job, Activity, Outcome, Empty, Hand, HasJob, HasLine, hand_of, job_in_work, line_in_hand, line_of, Deed, IsMergingOf, DoesRow, wanted_by, GaveUpFor, FindsNoPlace, gives_up, reply_for, MachineKeeps, StandsOutside, Machine, with_disk, Performs, outcome_of, StepsTo, TakesJob, TakesMerging, WantsBoxes, next_line, IsPostingOf, StoreState, at_value}
use Rattle.hb_set.specs.declared.commands.Reply.TheVariants as replies
use Rattle.hb_activity.specs.declared.dropping.DropWhy.TheVariants as drops
use Rattle.hb_activity.specs.declared.activities.Activity.TheVariants as at
use Rattle.hb_steps.specs.declared.outcomes.Outcome.TheVariants as outcomes
use Rattle.hb_activity.specs.Classes.{job_of}
use Rattle.hb_activity.specs.Deeds.{GoesOn}
use Rattle.hb_steps.proofs.Table.GivenUp.{given_up_is}
use Rattle.hb_steps.proofs.Table.QueueMoves.{joins_or_full, left_or_taken, still_waits}
use Rattle.hb_steps.proofs.Table.RowFates.{HasFate, JobFate, RowSaying, fate_of_job, saying_of}
use Rattle.hb_steps.proofs.Table.StepSays.{each_saying}
use Rattle.hb_steps.specs.CauseLaws.{AnswersFirstLine, BeginsSearch, FullByCause, SplitFindsNoPage, NoMemoryByCause, ReadFaultByCause}
use Rattle.hb_steps.specs.JobLaws.{DropsByCause, EndsByRow, JobsEndByCause, JobsLeaveToWorkers, IsTakenFrom, IsWorkerOf}
use Rattle.hb_steps.specs.KeptSequence.{awaited_number}
use Rattle.hb_steps.proofs.Facts.Ways.{own_next}

-- what an outcome answers, and what it drops
answered_with : (number other : ℕ) (reply given : Reply) → outcomes.Answered number reply ≡ outcomes.Answered other given → (number ≡ other) × (reply ≡ given)
answered_with number other reply given is = (cc, cc)

dropped_for : (why other : DropWhy) → outcomes.Dropped why ≡ outcomes.Dropped other → why ≡ other
dropped_for why other is = cc

not_moved : (number : ℕ) (reply : Reply) → outcomes.Answered number reply ≡ outcomes.Moved → ⊥
not_moved number reply is = cc

not_moved_drop : (why : DropWhy) → outcomes.Dropped why ≡ outcomes.Moved → ⊥
not_moved_drop why is = cc

not_dropped : (number : ℕ) (reply : Reply) (why : DropWhy) → outcomes.Answered number reply ≡ outcomes.Dropped why → ⊥
not_dropped number reply why is = cc

-- ---- a line that is answered

-- Where a line is answered: by which of the cases, and with which reply.
pub record Answering (m : Machine) (actor number : ℕ) (reply : Reply) (new : Machine) (G : Type 0) : Type 0 where
  pub refuses : (line : Line) → m.activity actor ≡ at.SessionIdle → next_line actor m.answered m.lines ≡ Some line → BeginsSearch m actor → number ≡ line.number → reply ≡ replies.NoMemory → G
  pub settles : (place : ℕ) → m.activity actor ≡ at.SessionAwait number reply place → G
  pub full : (line : Line) (held : ℕ) → m.activity actor ≡ at.SessionSplit line held → number ≡ line.number → m.store.meta.live ≡ m.store.meta.pages → reply ≡ replies.Full → G
  pub gives : (line : Line) (why : DropWhy) → line_in_hand (m.activity actor) ≡ Some line → number ≡ line.number → GaveUpFor why m actor → reply ≡ reply_for why → G

module _ (m : Machine) (actor number : ℕ) (reply : Reply) (new : Machine) (G : Type 0) (shows : Answering m actor number reply new G) where
  abbrev said : Outcome
  said = outcomes.Answered number reply

  moved : said ≡ outcomes.Moved → G
  moved is = absurd (not_moved number reply is)

  quiet : (deed : Deed) → deed.says ≡ GoesOn → said ≡ outcome_of deed.says → G
  quiet deed says is = moved (is ∙ ap outcome_of says)

  refused : (line : Line) → m.activity actor ≡ at.SessionIdle → next_line actor m.answered m.lines ≡ Some line → BeginsSearch m actor → (number ≡ line.number) × (reply ≡ replies.NoMemory) → G
  refused line idle next begins (number_is, reply_is) = shows.refuses line idle next begins number_is reply_is

  settled : (other place : ℕ) (given : Reply) → m.activity actor ≡ at.SessionAwait other given place → (number ≡ other) × (reply ≡ given) → G
  settled other place given is (number_is, reply_is) =
      shows.settles place (is ∙ ap (λ (n : ℕ). at.SessionAwait n given place) (sym number_is) ∙ ap (λ (r : Reply). at.SessionAwait number r place) (sym reply_is))

  gave_up : (why : DropWhy) → GaveUpFor why m actor → said ≡ outcome_of (gives_up why (m.activity actor)).says → G
  gave_up why cause = given_up_is (λ deed. said ≡ outcome_of deed.says → G) why (m.activity actor)
      (λ line hand is. let parts = answered_with number line.number reply (reply_for why) is in shows.gives line why (ap line_of hand) parts.0 cause parts.1)
      (λ job hand is. absurd (not_dropped number reply why is)) (λ hand is. moved is)

  row_said : (n : Machine) (deed : Deed) → n.store.meta ≡ m.store.meta → RowSaying n (m.activity actor) deed → said ≡ outcome_of deed.says → G
  row_said n deed meta (inl goes) is = quiet deed goes.says is
  row_said n deed meta (inr row) is =
      let parts = answered_with number row.line.number reply replies.Full (is ∙ ap (λ (d : Deed). outcome_of d.says) row.deed_is) in
      shows.full row.line row.held row.stands parts.0 (sym (ap (λ meta. meta.live) meta) ∙ row.none_free ∙ ap (λ meta. meta.pages) meta) parts.1

  pub answering : StepsTo m actor said new → G
  answering step = each_saying m actor said new G (record {
    plain = λ plain keeps. absurd plain;
    takes = λ line idle next performs. moved performs.says;
    refuses = λ line idle next boxes performs. refused line idle next (idle, subst (λ (o : Option Line). IsSomeAnd o (λ l. WantsBoxes l.command)) (sym next) boxes) (answered_with number line.number reply replies.NoMemory performs.says);
    posts = λ deed idle takes performs. quiet deed (ap (λ (d : Deed). d.says) takes.deed_is) performs.says;
    merges = λ deed idle takes performs. quiet deed (ap (λ (d : Deed). d.says) takes.deed_is) performs.says;
    settles = λ other place given is less performs. settled other place given is (answered_with number other reply given performs.says);
    does = λ acts. row_said (with_disk acts.fetched m.files m.clock m) acts.deed (ap (λ (s : StoreState). s.meta) acts.brings.rest) (saying_of (with_disk acts.fetched m.files m.clock m) (m.activity actor) (wanted_by m actor) acts.deed acts.row) acts.performs.says;
    gives = λ gives. gave_up gives.why (record { fetched = gives.fetched; brings = gives.brings; cause = gives.cause }) gives.performs.says;
  }) step

abbrev IsFirst : Machine → ℕ → ℕ → Type 0
IsFirst m actor number = IsSomeAnd (next_line actor m.answered m.lines) (λ line. line.number ≡ number)

pub answers_first_line : AnswersFirstLine
answers_first_line m actor number reply new keeps step = answering m actor number reply new (IsFirst m actor number) (record {
  refuses = λ line idle next begins number_is reply_is. first line next number_is;
  settles = λ place is. at_value (awaited_number (m.activity actor)) (λ number. IsSomeAnd (next_line actor m.answered m.lines) (λ line. line.number ≡ number)) number (ap awaited_number is) (keeps.lines_in_sequence.awaited actor);
  full = λ line held is number_is none_free reply_is. in_hand line (ap line_in_hand is) number_is;
  gives = λ line why hand number_is cause reply_is. in_hand line hand number_is;
}) step
  where
    first : (line : Line) → next_line actor m.answered m.lines ≡ Some line → number ≡ line.number → IsFirst m actor number
    first line next number_is = subst (λ (o : Option Line). IsSomeAnd o (λ line. line.number ≡ number)) (sym next) (sym number_is)

    in_hand : (line : Line) → line_in_hand (m.activity actor) ≡ Some line → number ≡ line.number → IsFirst m actor number
    in_hand line hand number_is = first line (at_value (line_in_hand (m.activity actor)) (λ line. next_line actor m.answered m.lines ≡ Some line) line hand (keeps.lines_in_sequence.in_hand actor)) number_is

-- ---- why it is refused

-- a reply that is kept for a line stands in the order
pub kept_inside : (m : Machine) (actor number place : ℕ) (reply : Reply) → MachineKeeps m → StandsOutside reply → m.activity actor ≡ at.SessionAwait number reply place → ⊥
kept_inside m actor number place reply keeps outside is = keeps.awaits_inside actor number place reply is outside

fault_why : (why : DropWhy) → replies.ReadFault ≡ reply_for why → why ≡ drops.ReadFault
fault_why drops.ReadFault is = refl
fault_why drops.NoMemory is = let never : replies.ReadFault ≡ replies.NoMemory = is in cc

pub memory_why : (why : DropWhy) → replies.NoMemory ≡ reply_for why → why ≡ drops.NoMemory
memory_why drops.NoMemory is = refl
memory_why drops.ReadFault is = let never : replies.NoMemory ≡ replies.ReadFault = is in cc

full_why : (why : DropWhy) → replies.Full ≡ reply_for why → ⊥
full_why drops.NoMemory is = let never : replies.Full ≡ replies.NoMemory = is in cc
full_why drops.ReadFault is = let never : replies.Full ≡ replies.ReadFault = is in cc

fault_memory : replies.ReadFault ≡ replies.NoMemory → ⊥
fault_memory is = cc

fault_full : replies.ReadFault ≡ replies.Full → ⊥
fault_full is = cc

pub memory_full : replies.NoMemory ≡ replies.Full → ⊥
memory_full is = cc

full_memory : replies.Full ≡ replies.NoMemory → ⊥
full_memory is = cc

pub read_fault_by_cause : ReadFaultByCause
read_fault_by_cause m actor number new keeps step = answering m actor number replies.ReadFault new (GaveUpFor drops.ReadFault m actor) (record {
  refuses = λ line idle next begins number_is reply_is. absurd (fault_memory reply_is);
  settles = λ place is. absurd (kept_inside m actor number place replies.ReadFault keeps tt is);
  full = λ line held is number_is none_free reply_is. absurd (fault_full reply_is);
  gives = λ line why hand number_is cause reply_is. subst (λ (why : DropWhy). GaveUpFor why m actor) (fault_why why reply_is) cause;
}) step

pub no_memory_by_cause : NoMemoryByCause
no_memory_by_cause m actor number new keeps step = answering m actor number replies.NoMemory new (GaveUpFor drops.NoMemory m actor ⊎ BeginsSearch m actor) (record {
  refuses = λ line idle next begins number_is reply_is. inr begins;
  settles = λ place is. absurd (kept_inside m actor number place replies.NoMemory keeps tt is);
  full = λ line held is number_is none_free reply_is. absurd (memory_full reply_is);
  gives = λ line why hand number_is cause reply_is. inl (subst (λ (why : DropWhy). GaveUpFor why m actor) (memory_why why reply_is) cause);
}) step

pub full_by_cause : FullByCause
full_by_cause m actor number new keeps step = answering m actor number replies.Full new (SplitFindsNoPage m actor number) (record {
  refuses = λ line idle next begins number_is reply_is. absurd (full_memory reply_is);
  settles = λ place is. absurd (kept_inside m actor number place replies.Full keeps tt is);
  full = λ line held is number_is none_free reply_is. let has = keeps.room_known.splits actor held line is in
      record { line = line; held = held; stands = is; number_is = sym number_is; rec = has.0; command = has.1; lacks = has.2; none_free = none_free };
  gives = λ line why hand number_is cause reply_is. absurd (full_why why reply_is);
}) step

-- ---- a job that is dropped

module _ (m : Machine) (actor : ℕ) (why : DropWhy) (new : Machine) where
  abbrev dropped : Outcome
  dropped = outcomes.Dropped why

  none_moved : dropped ≡ outcomes.Moved → GaveUpFor why m actor
  none_moved is = absurd (not_moved_drop why is)

  none_answered : (number : ℕ) (reply : Reply) → dropped ≡ outcomes.Answered number reply → GaveUpFor why m actor
  none_answered number reply is = absurd (not_dropped number reply why (sym is))

  none_quiet : (deed : Deed) → deed.says ≡ GoesOn → dropped ≡ outcome_of deed.says → GaveUpFor why m actor
  none_quiet deed says is = none_moved (is ∙ ap outcome_of says)

  none_row : (n : Machine) (deed : Deed) → RowSaying n (m.activity actor) deed → dropped ≡ outcome_of deed.says → GaveUpFor why m actor
  none_row n deed (inl goes) is = none_quiet deed goes.says is
  none_row n deed (inr row) is = none_answered row.line.number replies.Full (is ∙ ap (λ (d : Deed). outcome_of d.says) row.deed_is)

  gave_up_job : (other : DropWhy) → GaveUpFor other m actor → dropped ≡ outcome_of (gives_up other (m.activity actor)).says → GaveUpFor why m actor
  gave_up_job other cause = given_up_is (λ deed. dropped ≡ outcome_of deed.says → GaveUpFor why m actor) other (m.activity actor)
      (λ line hand is. none_answered line.number (reply_for other) is)
      (λ job hand is. subst (λ (why : DropWhy). GaveUpFor why m actor) (sym (dropped_for why other is)) cause)
      (λ hand is. none_moved is)

pub drops_by_cause : DropsByCause
drops_by_cause m actor why new step = each_saying m actor (outcomes.Dropped why) new (GaveUpFor why m actor) (record {
  plain = λ plain keeps. absurd plain;
  takes = λ line idle next performs. none_moved m actor why new performs.says;
  refuses = λ line idle next boxes performs. none_answered m actor why new line.number replies.NoMemory performs.says;
  posts = λ deed idle takes performs. none_quiet m actor why new deed (ap (λ (d : Deed). d.says) takes.deed_is) performs.says;
  merges = λ deed idle takes performs. none_quiet m actor why new deed (ap (λ (d : Deed). d.says) takes.deed_is) performs.says;
  settles = λ number place reply is less performs. none_answered m actor why new number reply performs.says;
  does = λ acts. none_row m actor why new (with_disk acts.fetched m.files m.clock m) acts.deed (saying_of (with_disk acts.fetched m.files m.clock m) (m.activity actor) (wanted_by m actor) acts.deed acts.row) acts.performs.says;
  gives = λ gives. gave_up_job m actor why new gives.why (record { fetched = gives.fetched; brings = gives.brings; cause = gives.cause }) gives.performs.says;
}) step

-- ---- a job that leaves those that wait

-- what a deed that takes a job leaves of the others
row_takes_nothing : (m : Machine) (activity : Activity) (deed : Deed) → RowSaying m activity deed → deed.takes ≡ None
row_takes_nothing m activity deed (inl goes) = goes.takes
row_takes_nothing m activity deed (inr row) = ap (λ (d : Deed). d.takes) row.deed_is

given_up_takes_nothing : (why : DropWhy) (activity : Activity) → (gives_up why activity).takes ≡ None
given_up_takes_nothing why activity = given_up_is (λ deed. deed.takes ≡ None) why activity (λ line is. refl) (λ job is. refl) (λ is. refl)

module _ (m : Machine) (actor : ℕ) (outcome : Outcome) (new : Machine) (job : Job) (waits : Contains m.jobs job) where
  abbrev Left : Type 0
  Left = Contains new.jobs job ⊎ (IsWorkerOf m actor job × IsTakenFrom m actor new job)

  left_by : (fetched : StoreState) (deed : Deed) → Performs m fetched actor deed outcome new → Contains new.jobs job ⊎ (deed.takes ≡ Some job)
  left_by fetched deed performs = by (left_or_taken deed.takes job m.jobs performs.jobs.left performs.jobs.takes waits)
    where
      by : Contains performs.jobs.left job ⊎ (deed.takes ≡ Some job) → Contains new.jobs job ⊎ (deed.takes ≡ Some job)
      by (inl stays) = inl (still_waits deed.adds job performs.jobs.left new.jobs performs.jobs.adds stays)
      by (inr taken) = inr taken

  -- a deed that takes no job
  takes_none : (fetched : StoreState) (deed : Deed) → Performs m fetched actor deed outcome new → deed.takes ≡ None → Left
  takes_none fetched deed performs none = by (left_by fetched deed performs)
    where
      by : Contains new.jobs job ⊎ (deed.takes ≡ Some job) → Left
      by (inl stays) = inl stays
      by (inr taken) = let never : None ≡ Some job = sym none ∙ taken in cc

  -- a worker that takes one
  low : (taken : Job) → taken ≡ job → m.store.meta.height ≤ taken.level → m.store.meta.height ≤ job.level
  low taken same le = subst (λ (j : Job). m.store.meta.height ≤ j.level) same le

  posting : (taken : Job) (next : Activity) → IsPostingOf taken m.store.meta.height next → m.activity actor ≡ at.PosterIdle → new.activity actor ≡ next → taken ≡ job → IsTakenFrom m actor new job
  posting taken next (inl (above, is)) idle stands same = inr (stands ∙ is ∙ sym idle, low taken same (omega (arith, above)))
  posting taken next (inr (inl (level, is))) idle stands same = inl (ap job_in_work (stands ∙ is) ∙ ap Some same)
  posting taken next (inr (inr (below, is))) idle stands same = inl (ap job_in_work (stands ∙ is) ∙ ap Some same)

  merging : (taken : Job) (next : Activity) → IsMergingOf taken m.store.meta.height next → m.activity actor ≡ at.ConsolidatorIdle → new.activity actor ≡ next → taken ≡ job → IsTakenFrom m actor new job
  merging taken next (inl (above, is)) idle stands same = inr (stands ∙ is ∙ sym idle, low taken same above)
  merging taken next (inr (below, is)) idle stands same = inl (ap job_in_work (stands ∙ is) ∙ ap Some same)

  posts : (deed : Deed) → m.activity actor ≡ at.PosterIdle → TakesJob m deed → Performs m m.store actor deed outcome new → Left
  posts deed idle takes performs = by (left_by m.store deed performs)
    where
      by : Contains new.jobs job ⊎ (deed.takes ≡ Some job) → Left
      by (inl stays) = inl stays
      by (inr taken) =
          let same = same_Some takes.job job (sym (ap (λ (d : Deed). d.takes) takes.deed_is) ∙ taken) in
          inr (
            inl (idle, ap (λ (j : Job). j.kind) (sym same) ∙ takes.kind),
            posting takes.job takes.next takes.posting idle (own_next actor deed.next m.activity new.activity performs.activity ∙ ap (λ (d : Deed). d.next) takes.deed_is) same,
          )

  merges : (deed : Deed) → m.activity actor ≡ at.ConsolidatorIdle → TakesMerging m deed → Performs m m.store actor deed outcome new → Left
  merges deed idle takes performs = by (left_by m.store deed performs)
    where
      by : Contains new.jobs job ⊎ (deed.takes ≡ Some job) → Left
      by (inl stays) = inl stays
      by (inr taken) =
          let same = same_Some takes.job job (sym (ap (λ (d : Deed). d.takes) takes.deed_is) ∙ taken) in
          inr (
            inr (idle, ap (λ (j : Job). j.kind) (sym same) ∙ takes.kind),
            merging takes.job takes.next takes.merging idle (own_next actor deed.next m.activity new.activity performs.activity ∙ ap (λ (d : Deed). d.next) takes.deed_is) same,
          )

pub jobs_leave_to_workers : JobsLeaveToWorkers
jobs_leave_to_workers m actor outcome new job step waits = each_saying m actor outcome new (Left m actor outcome new job waits) (record {
  plain = λ plain keeps. inl (subst (λ (l : List Job). Contains l job) (sym keeps.jobs) waits);
  takes = λ line idle next performs. takes_none m actor outcome new job waits m.store _ performs refl;
  refuses = λ line idle next boxes performs. takes_none m actor outcome new job waits m.store _ performs refl;
  posts = λ deed idle takes performs. posts m actor outcome new job waits deed idle takes performs;
  merges = λ deed idle takes performs. merges m actor outcome new job waits deed idle takes performs;
  settles = λ number place reply is less performs. takes_none m actor outcome new job waits m.store _ performs refl;
  does = λ acts. takes_none m actor outcome new job waits acts.fetched acts.deed acts.performs
      (row_takes_nothing (with_disk acts.fetched m.files m.clock m) (m.activity actor) acts.deed (saying_of (with_disk acts.fetched m.files m.clock m) (m.activity actor) (wanted_by m actor) acts.deed acts.row));
  gives = λ gives. takes_none m actor outcome new job waits gives.fetched _ gives.performs (given_up_takes_nothing gives.why (m.activity actor));
}) step

-- ---- a job in work

module _ (m : Machine) (actor : ℕ) (job : Job) (outcome : Outcome) (new : Machine) (work : job_in_work (m.activity actor) ≡ Some job) where
  abbrev Ended : Type 0
  Ended =
      (job_in_work (new.activity actor) ≡ Some job)
      ⊎ Contains new.jobs job
      ⊎ ((why : DropWhy) × (outcome ≡ outcomes.Dropped why))
      ⊎ EndsByRow m actor job outcome new

  -- who has a job in work isn't idle, and has no line in hand
  works_not : (activity : Activity) → m.activity actor ≡ activity → job_in_work activity ≡ None → Ended
  works_not activity is none = let never : None ≡ Some job = sym none ∙ ap job_in_work (sym is) ∙ work in cc

  hand_job : (hand : Hand) → hand_of (m.activity actor) ≡ hand → (hand ≡ HasJob job)
  hand_job Empty is = let never : None ≡ Some job = ap job_of (sym is) ∙ work in cc
  hand_job (HasLine line) is = let never : None ≡ Some job = ap job_of (sym is) ∙ work in cc
  hand_job (HasJob own) is = ap HasJob (same_Some own job (ap job_of (sym is) ∙ work))

  given : (why : DropWhy) → outcome ≡ outcome_of (gives_up why (m.activity actor)).says → Ended
  given why = given_up_is (λ deed. outcome ≡ outcome_of deed.says → Ended) why (m.activity actor)
      (λ line hand is. no_line line (sym hand ∙ hand_job (hand_of (m.activity actor)) refl))
      (λ own hand is. inr (inr (inl (why, is))))
      (λ hand is. nothing (sym hand ∙ hand_job (hand_of (m.activity actor)) refl))
    where
      no_line : (line : Line) → HasLine line ≡ HasJob job → Ended
      no_line line is = cc

      nothing : Empty ≡ HasJob job → Ended
      nothing is = cc

  row_ended : (does : DoesRow m actor outcome new) → HasFate (with_disk does.fetched m.files m.clock m) (m.activity actor) (wanted_by m actor) job does.deed → Ended
  row_ended does has = by has.fate
    where
      back : Contains new.jobs job ⊎ FindsNoPlace job new.jobs → Contains does.deed.adds job → Ended
      back (inl waits) adds = inr (inl waits)
      back (inr full) adds = inr (inr (inr (record { does = does; wanted = has.its; wants = has.wants; page = has.page; live = has.live; cause = inr (adds, full) })))

      by : JobFate (with_disk does.fetched m.files m.clock m) (m.activity actor) job has.page does.deed → Ended
      by (inl stays) = inl (ap job_in_work (own_next actor does.deed.next m.activity new.activity does.performs.activity) ∙ stays)
      by (inr (inl adds)) = back (joins_or_full does.deed.adds job does.performs.jobs.left new.jobs does.performs.jobs.adds adds) adds
      by (inr (inr ends)) = inr (inr (inr (record { does = does; wanted = has.its; wants = has.wants; page = has.page; live = has.live; cause = inl ends })))

pub jobs_end_by_cause : JobsEndByCause
jobs_end_by_cause m actor job outcome new step work = each_saying m actor outcome new (Ended m actor job outcome new work) (record {
  plain = λ plain keeps. inl (ap (λ (all : ℕ → Activity). job_in_work (all actor)) keeps.activity ∙ work);
  takes = λ line idle next performs. works_not m actor job outcome new work at.SessionIdle idle refl;
  refuses = λ line idle next boxes performs. works_not m actor job outcome new work at.SessionIdle idle refl;
  posts = λ deed idle takes performs. works_not m actor job outcome new work at.PosterIdle idle refl;
  merges = λ deed idle takes performs. works_not m actor job outcome new work at.ConsolidatorIdle idle refl;
  settles = λ number place reply is less performs. works_not m actor job outcome new work (at.SessionAwait number reply place) is refl;
  does = λ acts. row_ended m actor job outcome new work acts (fate_of_job (with_disk acts.fetched m.files m.clock m) (m.activity actor) (wanted_by m actor) job acts.deed work acts.row);
  gives = λ gives. given m actor job outcome new work gives.why gives.performs.says;
}) step
