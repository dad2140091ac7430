-- Why a job leaves those that wait, and why it ends, as laws.
use Rattle.std.specs.Prelude.{◌≡◌, ◌≢◌, ◌⊎◌, ℕ, ◌+◌, ◌≤◌, Contains, length, List, Option, Some, None}
use Rattle.hb_frag.specs.declared.pages.LivePage.{LivePage}
use Rattle.hb_terms.specs.declared.merging.MergePlan.TheVariants.{Merge}
use Rattle.hb_terms.specs.declared.plans.PostPlan.TheVariants.{Nothing, SplitFirst}
use Rattle.hb_activity.specs.declared.dropping.DropWhy.{DropWhy}
use Rattle.hb_activity.specs.declared.dropping.DropWhy.TheVariants as drops
use Rattle.hb_activity.specs.declared.jobs.Job.{Job}
use Rattle.hb_activity.specs.declared.jobs.JobKind.TheVariants.{Post, Merge}
use Rattle.hb_activity.specs.declared.waiting_jobs.TheConstants.{JOBS}
use Rattle.hb_activity.specs.declared.wanting.Wanted.{Wanted}
use Rattle.hb_activity.specs.declared.activities.Activity.{Activity}
use Rattle.hb_activity.specs.declared.activities.Activity.TheVariants as at
use Rattle.hb_activity.specs.Classes.{job_in_work}
use Rattle.hb_consol.specs.Asks.{OnlyMovesToMerge}
use Rattle.hb_consol.specs.ConsolidatorRows.{HasMergePlan, children_of, first_one, one_behind, pair_from}
use Rattle.hb_frag.specs.Leaves.{first_named, siblings_of}
use Rattle.hb_poster.specs.Asks.{OnlyMovesOn}
use Rattle.hb_poster.specs.PosterRows.{MayGrow}
use Rattle.hb_steps.specs.declared.outcomes.Outcome.{Outcome}
use Rattle.hb_steps.specs.declared.outcomes.Outcome.TheVariants as outcomes
use Rattle.hb_steps.specs.Acting.{DoesRow, HasPlanned}
use Rattle.hb_steps.specs.Asking.{wanted_by}
use Rattle.hb_steps.specs.Machines.{Machine, live_here, sight, with_disk}
use Rattle.hb_steps.specs.Steps.{StepsTo}
use Rattle.hb_steps.specs.CauseLaws.{GaveUpFor}

-- A job is dropped for the same causes.
abbrev pub DropsByCause : Type 0
DropsByCause = (m : Machine) (actor : ℕ) (why : DropWhy) (new : Machine) → StepsTo m actor (outcomes.Dropped why) new → GaveUpFor why m actor

-- A worker that only moves on never drops its job for want of memory.
abbrev pub MoversLackNoMemory : Type 0
MoversLackNoMemory = (m : Machine) (actor : ℕ) (new : Machine) → StepsTo m actor (outcomes.Dropped drops.NoMemory) new → ¬ (OnlyMovesOn (m.activity actor)) × ¬ (OnlyMovesToMerge (m.activity actor))

-- A job leaves those that wait only by a step of the idle worker of its kind, which has it in work then, or stays idle since the
-- file isn't higher than the job's level.
abbrev pub IsWorkerOf : Machine → ℕ → Job → Type 0
IsWorkerOf m actor job = ((m.activity actor ≡ at.PosterIdle) × (job.kind ≡ Post)) ⊎ ((m.activity actor ≡ at.ConsolidatorIdle) × (job.kind ≡ Merge))

abbrev pub IsTakenFrom : Machine → ℕ → Machine → Job → Type 0
IsTakenFrom m actor new job = (job_in_work (new.activity actor) ≡ Some job) ⊎ ((new.activity actor ≡ m.activity actor) × (m.store.meta.height ≤ job.level))

abbrev pub JobsLeaveToWorkers : Type 0
JobsLeaveToWorkers = (m : Machine) (actor : ℕ) (outcome : Outcome) (new : Machine) (job : Job) → StepsTo m actor outcome new → Contains m.jobs job →
    Contains new.jobs job ⊎ (IsWorkerOf m actor job × IsTakenFrom m actor new job)

-- No pair is left to try at a page: this isn't one, and the parent names no child behind the page.
abbrev pub IsLastPair : LivePage → ℕ → Option (ℕ × ℕ) → Type 0
IsLastPair above keep pair = (pair ≡ None) × (one_behind keep (children_of above) ≡ None)

-- the two pages aren't to be merged, by the plan for them
abbrev pub MayNotMerge : Machine → ℕ → ℕ → ℕ → LivePage → Type 0
MayNotMerge m parent keep gone page = (has : HasMergePlan (sight m) parent keep gone page) × (has.plan ≢ Merge)

-- A row ends a job at the page that the step latched: a growth that may not be made, or finds no page free; a plan that owes
-- nothing; a parent to be split, and no page free; a parent that names no child; no pair left to try; a page to keep that gave
-- nothing to the other one; or two pages that may not be merged, or no page in use, by what the file says of itself.
abbrev pub EndsAt : Activity → Machine → LivePage → Type 0
EndsAt (at.PosterGrow job) m root = (¬ (MayGrow (sight m) job root)) ⊎ (m.store.meta.live ≡ m.store.meta.pages)
EndsAt (at.PosterChild job parent) m child = HasPlanned m job parent child Nothing
EndsAt (at.PosterAgain job parent) m child = HasPlanned m job parent child Nothing ⊎ (HasPlanned m job parent child SplitFirst × (m.store.meta.live ≡ m.store.meta.pages))
EndsAt (at.ConsolidatorWalk job held) m parent = first_one (children_of parent) ≡ None
EndsAt (at.ConsolidatorScan job parent child) m page = (above : LivePage) × (live_here m.store parent ≡ Some above) × IsLastPair above child (pair_from above page 0)
EndsAt (at.ConsolidatorTry job parent keep gone leaf) m page = (may : MayNotMerge m parent keep gone page) × IsLastPair may.0.above keep (pair_from may.0.above may.0.kept (leaf + 1))
EndsAt (at.ConsolidatorKeep job parent keep gone) m page = first_named gone (siblings_of page) ≡ None
EndsAt (at.ConsolidatorDecide job parent keep gone) m page = MayNotMerge m parent keep gone page ⊎ (m.store.meta.live ≡ 0)
EndsAt other m page = ⊥

-- A job finds no place in the queue: 256 other jobs wait.
pub record FindsNoPlace (job : Job) (jobs : List Job) : Type 0 where
  pub others : ¬ (Contains jobs job)
  pub full : JOBS ≤ length jobs

-- The row of a worker ends its job for such a cause; or it is to wait again, and finds no place.
pub record EndsByRow (m : Machine) (actor : ℕ) (job : Job) (outcome : Outcome) (new : Machine) : Type 0 where
  pub does : DoesRow m actor outcome new
  pub wanted : Wanted
  pub wants : wanted_by m actor ≡ Some wanted
  pub page : LivePage
  pub live : live_here does.fetched wanted.page ≡ Some page
  pub cause : EndsAt (m.activity actor) (with_disk does.fetched m.files m.clock m) page ⊎ (Contains does.deed.adds job × FindsNoPlace job new.jobs)

-- A job in work stays in work of its worker, or waits, or is dropped; or it ends by a row.
abbrev pub JobsEndByCause : Type 0
JobsEndByCause = (m : Machine) (actor : ℕ) (job : Job) (outcome : Outcome) (new : Machine) → StepsTo m actor outcome new → job_in_work (m.activity actor) ≡ Some job →
    (job_in_work (new.activity actor) ≡ Some job)
    ⊎ Contains new.jobs job
    ⊎ ((why : DropWhy) × (outcome ≡ outcomes.Dropped why))
    ⊎ EndsByRow m actor job outcome new
