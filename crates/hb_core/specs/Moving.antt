-- What the private calls of a core make of it, said of what it holds.
use Rattle.hb_activity.specs.declared.jobs.Job.{Job}
use Rattle.hb_activity.specs.Queue.{AddsJobs}
use Rattle.std.specs.Prelude.{◌≡◌, ℕ, ◌≤◌, List, [], ◌∷◌, ◌++◌, length, false, Option, Some, None, IsSome, option_map}
use Rattle.std.specs.Option.{option_and_then}
use Rattle.hb_latch.specs.declared.modes.Mode.{Mode}
use Rattle.hb_activity.specs.declared.activities.Activity.{Activity}
use Rattle.hb_activity.specs.declared.activities.Activity.TheVariants as at
use Rattle.hb_activity.specs.declared.holding.Latch.{Latch}
use Rattle.hb_activity.specs.declared.deciding.Fate.{Fate}
use Rattle.hb_activity.specs.declared.deciding.Fate.TheVariants as fates
use Rattle.hb_activity.specs.Classes.{Hand, line_of}
use Rattle.hb_activity.specs.Deeds.{Deed}
use Rattle.hb_activity.specs.Walks.{walk_held}
use Rattle.hb_latch.specs.Tables.{HeldModes, IsGrantable}
use Rattle.hb_space.specs.Actors.{IsActor}
use Rattle.hb_ops.specs.declared.operations.Op.{Op}
use Rattle.hb_set.specs.Order.{Entry}
use Rattle.hb_store.specs.Calls.{StaysHere}
use Rattle.hb_steps.specs.Using.{is_changed, pages_of, use_done, use_held}
use Rattle.hb_store.specs.Held.{IsTied}
use Rattle.hb_store.specs.States.{StoreState, in_memory}
use Rattle.hb_steps.specs.declared.outcomes.Outcome.{Outcome}
use Rattle.hb_steps.specs.declared.outcomes.Outcome.TheVariants as outcomes
pub use Rattle.hb_core.specs.Committing.{KeepsFilesBy, MayCommit, later_with}
pub use Rattle.hb_core.specs.CoreUpdates.{StandsAs, with_counts, with_jobs, with_latches, with_order, with_order_of_use, with_standing, with_stop, with_store}
use Rattle.hb_core.specs.Counts.{counted_by}
use Rattle.hb_steps.specs.Machines.{AreApart, live_here}
use Rattle.hb_steps.specs.Performing.{ChangesQueue, MayDo, Relatches, latches_held, mode_among, outcome_of}
use Rattle.hb_core.specs.Showing.{RunningCore}

-- An actor may have these latches: they are two at most, on different pages, and nobody is in the way.
pub record MayHave (who : ℕ) (modes : HeldModes) (latches : List Latch) : Type 0 where
  pub actor : IsActor who
  pub few : length latches ≤ 2
  pub apart : AreApart latches
  pub free : (page : ℕ) (mode : Mode) → mode_among page latches ≡ Some mode → IsGrantable modes who page mode

-- An actor may stand so, with its latches among these: nobody is in the way of them, they are on different pages, and the page that
-- a walk holds is in memory and in use.
pub record MayStand (actor : ℕ) (modes : HeldModes) (st : StoreState) (activity : Activity) : Type 0 where
  pub latches : IsActor actor
  pub walks : IsSome (walk_held activity) → IsSome (option_and_then (live_here st) (walk_held activity))
  pub apart : AreApart (latches_held st activity)
  pub free : (page : ℕ) (mode : Mode) → mode_among page (latches_held st activity) ≡ Some mode → IsGrantable modes actor page mode

-- Jobs join the queue. All else is as it was.
pub record Queues (jobs : List Job) (old new : RunningCore) : Type 0 where
  pub adds : AddsJobs jobs old.jobs new.jobs
  pub rest : new ≡ with_jobs new.jobs old

-- An actor stands elsewhere, and has the latches of that and no other; its pins go over from these pages to those of the latches. All
-- else is as it was.
pub record StandsNow (actor : ℕ) (pins : List ℕ) (next : Activity) (old new : RunningCore) : Type 0 where
  pub latches : Relatches actor (latches_held old.store next) old.latches new.latches
  pub uses : new.uses ≡ use_held pins (pages_of (latches_held old.store next)) old.uses
  pub rest : new ≡ record (with_standing actor next old) { latches = new.latches; uses = new.uses }

-- It stands elsewhere, with no latch and no pin before and afterwards.
pub record StandsFree (actor : ℕ) (next : Activity) (old new : RunningCore) : Type 0 where
  pub latches : Relatches actor [] old.latches new.latches
  pub rest : new ≡ record (with_standing actor next old) { latches = new.latches }

-- A page that is dirty or pinned, and isn't changed, is there as it was.
abbrev pub KeepsStaying : Option Op → RunningCore → StoreState → Type 0
KeepsStaying op old new = (id : ℕ) → StaysHere old.uses id → is_changed op old.store id ≡ false → in_memory new id ≡ in_memory old.store id

abbrev pub numbers_joined : Option Entry → List ℕ
numbers_joined None = []
numbers_joined (Some entry) = entry.line.number ∷ []

-- A decider doesn't know the order's length: the place for which a session waits is put in afterwards.
abbrev pub placed_at : ℕ → Activity → Activity
placed_at place (at.SessionAwait number reply before) = at.SessionAwait number reply place
placed_at place other = other

abbrev pub placed : ℕ → Deed → Deed
placed place deed = record deed { next = placed_at place deed.next }

-- the number of the line that is in hand
abbrev pub number_of : Hand → Option ℕ
number_of hand = option_map (λ line. line.number) (line_of hand)

-- It joins the order, where the line takes effect and its session awaits its place; and what a step comes to with it in hand.
abbrev pub joins_order : Option ℕ → Activity → Fate → Option ℕ
joins_order line (at.SessionAwait number reply place) fates.TakesEffect = line
joins_order line then fate = None

abbrev pub said : Option ℕ → Fate → Outcome
said (Some number) (fates.Answers reply) = outcomes.Answered number reply
said line fate = outcomes.Moved

-- A deed of an actor is done: its latches, the queue, the store and the order are as it says, its pins go over from these pages to those
-- of its latches, its operation is counted, and all else is as it was.
pub record DoesDeed (actor : ℕ) (pins : List ℕ) (deed : Deed) (outcome : Outcome) (old new : RunningCore) : Type 0 where
  pub says : outcome ≡ outcome_of deed.says
  pub latches : Relatches actor (latches_held new.store deed.next) old.latches new.latches
  pub jobs : ChangesQueue deed old.jobs new.jobs
  pub order : new.order ≡ old.order ++ numbers_joined deed.joins
  pub store : MayDo deed.op (length old.order) old.store new.store
  pub uses : new.uses ≡ use_held pins (pages_of (latches_held new.store deed.next)) (use_done deed.op old.store old.uses)
  pub stays : KeepsStaying deed.op old new.store
  -- the frames are those of the pages in memory
  pub tied : IsTied new.store new.uses
  pub counts : new.done ≡ counted_by actor deed.op old.done
  pub rest : new ≡ record (with_standing actor deed.next old) { latches = new.latches; jobs = new.jobs; order = new.order; store = new.store; uses = new.uses; done = new.done }
