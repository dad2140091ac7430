-- What the calls of a core make of it, put together: a deed.
use Rattle.hb_core.proofs.Running.Names.{◌≡◌, ℕ, List, [], ◌++◌, length, Option, Some, None, refl, sym, ap, subst, ◌∙◌, append-nil, LatchTable, Activity, Fate, Next, Job, Class, Hand, Empty, HasLine, HasJob, class_of, hand_of, idle_of, deed_of, joined_by, Deed, answers_now, takes_job, AddsJobs, StoreState, Outcome, gives_up, reply_for, DropWhy, Latch, Op, Use, Reply, IsTied, counted_by, DoesDeed, StandsFree, joins_order, number_of, numbers_joined, placed_at, with_order_of_use, with_standing, with_store, CanMovePins, CanUnpin, pages_of, use_done, use_held, MayDo, Relatches, latches_held, outcome_of, RunningCore, IsWorking, class_for, same_Some, none-some, option_to_list}
use Rattle.hb_activity.specs.declared.activities.Activity.TheVariants as at
use Rattle.hb_activity.specs.declared.deciding.Fate.TheVariants as fates
use Rattle.hb_activity.specs.Deciding.{said_by}
use Rattle.hb_activity.specs.Queue.{LeavesBy, LeavesFirst}
use Rattle.hb_steps.specs.declared.outcomes.Outcome.TheVariants as outcomes
use Rattle.hb_steps.specs.GivingUp.{drops_job}
use Rattle.hb_core.proofs.Running.Pins.{tied_held}
use Rattle.hb_core.specs.declared.counts.TidyCounts.{TidyCounts}
use Rattle.hb_core.specs.Moving.{KeepsStaying, StandsNow, placed, said, with_counts, with_jobs, with_order}
use Rattle.hb_steps.proofs.Table.DeedKinds.{line_is_sessions}
use Rattle.hb_steps.proofs.Table.GivenUp.{given_up_is, idle_latches}

-- a deed, by what became of the store, the order of use, the jobs, the latches and the counts
pub does_deed : (actor : ℕ) (pins : List ℕ) (deed : Deed) (outcome : Outcome) (old new : RunningCore) (store : StoreState) (uses : List Use) (left jobs : List Job) (latches : LatchTable) (counts : TidyCounts)
    → outcome ≡ outcome_of deed.says → LeavesBy deed.takes old.jobs left → AddsJobs deed.adds left jobs → MayDo deed.op (length old.order) old.store store
    → Relatches actor (latches_held store deed.next) old.latches latches
    → uses ≡ use_held pins (pages_of (latches_held store deed.next)) (use_done deed.op old.store old.uses) → KeepsStaying deed.op old store → IsTied store uses → counts ≡ counted_by actor deed.op old.done
    → new ≡ record (with_standing actor deed.next old) { latches = latches; jobs = jobs; order = old.order ++ numbers_joined deed.joins; store = store; uses = uses; done = counts }
    → DoesDeed actor pins deed outcome old new
does_deed actor pins deed outcome old new store uses left jobs latches counts says takes adds done relatched used stays tied counted is =
    subst (λ (c : RunningCore). DoesDeed actor pins deed outcome old c) (sym is) (record {
      says = says;
      latches = relatched;
      jobs = record { left = left; takes = takes; adds = adds };
      order = refl;
      store = done;
      uses = used;
      stays = stays;
      tied = tied;
      counts = counted;
      rest = refl;
    })

-- the number of the line that joins the order, and what is said
joined_so : (hand : Hand) (then : Activity) (fate : Fate) → option_to_list (joins_order (number_of hand) then fate) ≡ numbers_joined (joined_by hand then fate)
joined_so Empty (at.SessionAwait number reply place) fates.GoesOn = refl
joined_so Empty (at.SessionAwait number reply place) fates.TakesEffect = refl
joined_so Empty (at.SessionAwait number reply place) (fates.Answers given) = refl
joined_so Empty other fates.GoesOn = refl
joined_so Empty other fates.TakesEffect = refl
joined_so Empty other (fates.Answers given) = refl
joined_so (HasLine line) (at.SessionAwait number reply place) fates.GoesOn = refl
joined_so (HasLine line) (at.SessionAwait number reply place) fates.TakesEffect = refl
joined_so (HasLine line) (at.SessionAwait number reply place) (fates.Answers given) = refl
joined_so (HasLine line) other fates.GoesOn = refl
joined_so (HasLine line) other fates.TakesEffect = refl
joined_so (HasLine line) other (fates.Answers given) = refl
joined_so (HasJob job) (at.SessionAwait number reply place) fates.GoesOn = refl
joined_so (HasJob job) (at.SessionAwait number reply place) fates.TakesEffect = refl
joined_so (HasJob job) (at.SessionAwait number reply place) (fates.Answers given) = refl
joined_so (HasJob job) other fates.GoesOn = refl
joined_so (HasJob job) other fates.TakesEffect = refl
joined_so (HasJob job) other (fates.Answers given) = refl

said_so : (hand : Hand) (fate : Fate) → said (number_of hand) fate ≡ outcome_of (said_by hand fate)
said_so Empty fates.GoesOn = refl
said_so Empty fates.TakesEffect = refl
said_so Empty (fates.Answers given) = refl
said_so (HasLine line) fates.GoesOn = refl
said_so (HasLine line) fates.TakesEffect = refl
said_so (HasLine line) (fates.Answers given) = refl
said_so (HasJob job) fates.GoesOn = refl
said_so (HasJob job) fates.TakesEffect = refl
said_so (HasJob job) (fates.Answers given) = refl

-- the pins may go over once the operation is done, since they may in every store that it leads to
pub can_then : (place : ℕ) (pins : List ℕ) (next : Next) (stands_as : Activity) (old done : RunningCore)
    → ((st : StoreState) → MayDo next.op (length old.order) old.store st → IsTied st (use_done next.op old.store old.uses)
    → CanMovePins pins (pages_of (latches_held st (placed_at (length old.order) next.then))) (use_done next.op old.store old.uses))
    → place ≡ length old.order → stands_as ≡ placed_at place next.then → MayDo next.op place old.store done.store → done.uses ≡ use_done next.op old.store old.uses → IsTied done.store done.uses
    → CanMovePins pins (pages_of (latches_held done.store stands_as)) done.uses
can_then place pins next stands_as old done hold at_end is_next does used tied =
    let after : stands_as ≡ placed_at (length old.order) next.then = is_next ∙ ap (λ (n : ℕ). placed_at n next.then) at_end in
    subst (λ (a : Activity). CanMovePins pins (pages_of (latches_held done.store a)) done.uses) (sym after)
    (subst (λ (l : List Use). CanMovePins pins (pages_of (latches_held done.store (placed_at (length old.order) next.then))) l) (sym used)
    (hold done.store (subst (λ (n : ℕ). MayDo next.op n old.store done.store) at_end does) (subst (λ (l : List Use). IsTied done.store l) used tied)))

-- what a decider said is performed: the operation, the jobs, the latches with the pins, the order, and the counts, one after the other
pub performed : (actor place : ℕ) (pins : List ℕ) (line joins : Option ℕ) (next : Next) (stands_as : Activity) (outcome : Outcome) (counts : TidyCounts) (old done queued stood ordered new : RunningCore) (state : Activity)
    → line ≡ number_of (hand_of state) → place ≡ length old.order → stands_as ≡ placed_at place next.then → joins ≡ joins_order line next.then next.fate → outcome ≡ said line next.fate
    → MayDo next.op place old.store done.store → done.uses ≡ use_done next.op old.store old.uses → KeepsStaying next.op old done.store → IsTied done.store done.uses
    → done ≡ with_order_of_use done.uses (with_store done.store old) → AddsJobs next.jobs.items done.jobs queued.jobs → queued ≡ with_jobs queued.jobs done
    → CanMovePins pins (pages_of (latches_held done.store stands_as)) done.uses
    → StandsNow actor pins stands_as queued stood → ordered ≡ with_order (stood.order ++ option_to_list joins) stood → counts ≡ counted_by actor next.op old.done → new ≡ with_counts counts ordered
    → DoesDeed actor pins (placed (length old.order) (deed_of state next)) outcome old new
performed actor place pins line joins next stands_as outcome counts old done queued stood ordered new state hand at_end is_next is_joined is_said does used stay tied kept adds queued_so can stands joined counted counting =
    let deed : Deed = placed (length old.order) (deed_of state next) in
    let after : stands_as ≡ deed.next = is_next ∙ ap (λ (n : ℕ). placed_at n next.then) at_end in
    let jobs_so : queued ≡ record old { store = done.store; uses = done.uses; jobs = queued.jobs } = queued_so ∙ ap (with_jobs queued.jobs) kept in
    let stood_so : stood ≡ record (with_standing actor stands_as old) { store = done.store; uses = stood.uses; jobs = queued.jobs; latches = stood.latches } =
    stands.rest ∙ ap (λ (c : RunningCore). record (with_standing actor stands_as c) { latches = stood.latches; uses = stood.uses }) jobs_so in
    let all : new ≡ record (with_standing actor stands_as old) { store = done.store; uses = stood.uses; jobs = queued.jobs; latches = stood.latches; order = old.order ++ option_to_list joins; done = counts } =
    counting ∙ ap (with_counts counts) joined ∙ ap (λ (c : RunningCore). with_counts counts (with_order (c.order ++ option_to_list joins) c)) stood_so in
    let numbers : option_to_list joins ≡ numbers_joined deed.joins = ap option_to_list (is_joined ∙ ap (λ (l : Option ℕ). joins_order l next.then next.fate) hand) ∙ joined_so (hand_of state) next.then next.fate in
    let held : stood.uses ≡ use_held pins (pages_of (latches_held done.store stands_as)) done.uses =
    stands.uses ∙ ap (λ (c : RunningCore). use_held pins (pages_of (latches_held c.store stands_as)) c.uses) jobs_so in
    does_deed actor pins deed outcome old new done.store stood.uses old.jobs queued.jobs stood.latches counts
    (is_said ∙ ap (λ (l : Option ℕ). said l next.fate) hand ∙ said_so (hand_of state) next.fate)
    refl
    (subst (λ (c : RunningCore). AddsJobs next.jobs.items c.jobs queued.jobs) kept adds)
    (subst (λ (n : ℕ). MayDo next.op n old.store done.store) at_end does)
    (subst (λ (a : Activity). Relatches actor (latches_held done.store a) old.latches stood.latches) after
    (subst (λ (c : RunningCore). Relatches actor (latches_held c.store stands_as) c.latches stood.latches) jobs_so stands.latches))
    (held ∙ ap (λ (l : List Use). use_held pins (pages_of (latches_held done.store stands_as)) l) used
    ∙ ap (λ (a : Activity). use_held pins (pages_of (latches_held done.store a)) (use_done next.op old.store old.uses)) after)
    stay
    (subst (λ (l : List Use). IsTied done.store l) (sym held) (tied_held done.store pins (pages_of (latches_held done.store stands_as)) done.uses tied can))
    counted
    (all ∙ ap (λ (l : List ℕ). record (with_standing actor stands_as old) { store = done.store; uses = stood.uses; jobs = queued.jobs; latches = stood.latches; order = old.order ++ l; done = counts }) numbers
    ∙ ap (λ (a : Activity). record (with_standing actor a old) { store = done.store; uses = stood.uses; jobs = queued.jobs; latches = stood.latches; order = old.order ++ numbers_joined deed.joins; done = counts }) after)

-- nothing is done to the file
nothing_done : (op : Option Op) (st : StoreState) (uses : List Use) → op ≡ None → use_done op st uses ≡ uses
nothing_done op st uses none = ap (λ (o : Option Op). use_done o st uses) none

-- an actor that stands elsewhere, and does nothing else
pub just_stands : (actor : ℕ) (pins : List ℕ) (deed : Deed) (outcome : Outcome) (old new : RunningCore) → outcome ≡ outcome_of deed.says → LeavesBy deed.takes old.jobs old.jobs → AddsJobs deed.adds old.jobs old.jobs
    → MayDo deed.op (length old.order) old.store old.store → deed.op ≡ None → [] ≡ numbers_joined deed.joins → IsTied old.store old.uses → CanMovePins pins (pages_of (latches_held old.store deed.next)) old.uses
    → StandsNow actor pins deed.next old new → DoesDeed actor pins deed outcome old new
just_stands actor pins deed outcome old new says takes adds does none joins tied can stands =
    let order : old.order ≡ old.order ++ numbers_joined deed.joins = sym (append-nil old.order) ∙ ap (λ (l : List ℕ). old.order ++ l) joins in
    does_deed actor pins deed outcome old new old.store new.uses old.jobs old.jobs new.latches old.done says takes adds does stands.latches
    (stands.uses ∙ ap (λ (l : List Use). use_held pins (pages_of (latches_held old.store deed.next)) l) (sym (nothing_done deed.op old.store old.uses none)))
    (λ id stays same. refl)
    (subst (λ (l : List Use). IsTied old.store l) (sym stands.uses) (tied_held old.store pins (pages_of (latches_held old.store deed.next)) old.uses tied can))
    (ap (λ (o : Option Op). counted_by actor o old.done) (sym none))
    (stands.rest ∙ ap (λ (l : List ℕ). record (with_standing actor deed.next old) { latches = new.latches; uses = new.uses; order = l }) order)

-- the oldest job is taken, and no page is held before and afterwards
pub took_job : (actor : ℕ) (job : Job) (next : Activity) (old left new : RunningCore) → LeavesFirst job.kind old.jobs job left.jobs → left ≡ with_jobs left.jobs old → latches_held old.store next ≡ [] → IsTied old.store old.uses
    → StandsFree actor next left new → DoesDeed actor [] (takes_job next job) outcomes.Moved old new
took_job actor job next old left new takes left_so none tied stands =
    let rest : new ≡ record (with_standing actor next old) { latches = new.latches; jobs = left.jobs } =
    stands.rest ∙ ap (λ (c : RunningCore). record (with_standing actor next c) { latches = new.latches }) left_so in
    does_deed actor [] (takes_job next job) outcomes.Moved old new old.store old.uses left.jobs left.jobs new.latches old.done refl takes refl refl
    (subst (λ (l : List Latch). Relatches actor l old.latches new.latches) (sym none)
    (subst (λ (c : RunningCore). Relatches actor [] c.latches new.latches) left_so stands.latches))
    (ap (λ (l : List Latch). use_held [] (pages_of l) old.uses) (sym none))
    (λ id stays same. refl)
    tied
    refl
    (rest ∙ ap (λ (l : List ℕ). record (with_standing actor next old) { latches = new.latches; jobs = left.jobs; order = l }) (sym (append-nil old.order)))

-- who is idle pins nothing
pub can_idle : (st : StoreState) (kind : Class) (pins : List ℕ) (uses : List Use) → CanUnpin pins uses → CanMovePins pins (pages_of (latches_held st (idle_of kind))) uses
can_idle st kind pins uses can = subst (λ (l : List Latch). CanMovePins pins (pages_of l) uses) (sym (idle_latches kind st)) (can, tt)

-- what is in hand is given up
pub line_given_up : (actor : ℕ) (pins : List ℕ) (why : DropWhy) (state idle : Activity) (number : ℕ) (reply : Reply) (old new : RunningCore) → IsWorking state → class_of state ≡ class_for actor → Some number ≡ number_of (hand_of state)
    → reply ≡ reply_for why → idle ≡ idle_of (class_for actor) → IsTied old.store old.uses → CanUnpin pins old.uses → StandsNow actor pins idle old new → DoesDeed actor pins (gives_up why state) (outcomes.Answered number reply) old new
line_given_up actor pins why state idle number reply old new works class is reply_is idle_is tied can stands =
    given_up_is (λ (deed : Deed). DoesDeed actor pins deed (outcomes.Answered number reply) old new) why state
    (λ line hand.
    let same : number ≡ line.number = same_Some number line.number (is ∙ ap number_of hand) in
    let stood : idle ≡ at.SessionIdle = idle_is ∙ ap idle_of (sym class ∙ line_is_sessions state line hand) in
    just_stands actor pins (answers_now line.number (reply_for why)) (outcomes.Answered number reply) old new
    (ap (λ (n : ℕ). outcomes.Answered n reply) same ∙ ap (outcomes.Answered line.number) reply_is) refl refl refl refl refl tied (can, tt)
    (subst (λ (a : Activity). StandsNow actor pins a old new) stood stands))
    (λ job hand. absurd (none-some number (sym (is ∙ ap number_of hand))))
    (λ hand. absurd (none-some number (sym (is ∙ ap number_of hand))))

pub job_given_up : (actor : ℕ) (pins : List ℕ) (why : DropWhy) (state idle : Activity) (old new : RunningCore) → IsWorking state → class_of state ≡ class_for actor → None ≡ number_of (hand_of state) → idle ≡ idle_of (class_for actor)
    → IsTied old.store old.uses → CanUnpin pins old.uses → StandsNow actor pins idle old new → DoesDeed actor pins (gives_up why state) (outcomes.Dropped why) old new
job_given_up actor pins why state idle old new works class is idle_is tied can stands =
    given_up_is (λ (deed : Deed). DoesDeed actor pins deed (outcomes.Dropped why) old new) why state
    (λ line hand. absurd (none-some line.number (is ∙ ap number_of hand)))
    (λ job hand. just_stands actor pins (drops_job why (idle_of (class_of state))) (outcomes.Dropped why) old new refl refl refl refl refl refl tied (can_idle old.store (class_of state) pins old.uses can) stood)
    (λ hand. absurd (never state works hand))
  where
    stood : StandsNow actor pins (idle_of (class_of state)) old new
    stood = subst (λ (a : Activity). StandsNow actor pins a old new) (idle_is ∙ ap idle_of (sym class)) stands

    never : (state : Activity) → IsWorking state → hand_of state ≡ Empty → ⊥
    never (at.SessionWalk line held rest found) works empty = cc
    never (at.SessionSplit line held) works empty = cc
    never (at.SessionPut line source fresh) works empty = cc
    never (at.PosterGrow job) works empty = cc
    never (at.PosterWalk job held) works empty = cc
    never (at.PosterChild job parent) works empty = cc
    never (at.PosterPromote job parent) works empty = cc
    never (at.PosterAgain job parent) works empty = cc
    never (at.ConsolidatorWalk job held) works empty = cc
    never (at.ConsolidatorScan job parent child) works empty = cc
    never (at.ConsolidatorTry job parent keep gone leaf) works empty = cc
    never (at.ConsolidatorPromote job parent keep gone) works empty = cc
    never (at.ConsolidatorKeep job parent keep gone) works empty = cc
    never (at.ConsolidatorDecide job parent keep gone) works empty = cc
    never other works empty = absurd works
