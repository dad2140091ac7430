-- A step that may be done: it is done, given up, or meets a bad page.
use Rattle.std.specs.Prelude.{◌≡◌, ◌⊎◌, ◌++◌, List, ℕ, ◌<◌, true, false, Bool, IsTrue, IsSomeAnd, Option, Some, None}
use Rattle.hb_ops.specs.declared.operations.Op.{Op}
use Rattle.hb_ops.specs.declared.operations.Op.TheVariants as ops
use Rattle.hb_frag.specs.declared.pages.LivePage.{LivePage}
use Rattle.hb_terms.specs.declared.plans.PostPlan.{PostPlan}
use Rattle.hb_terms.specs.declared.plans.PostPlan.TheVariants.{SplitFirst}
use Rattle.hb_activity.specs.declared.jobs.Job.{Job}
use Rattle.hb_activity.specs.declared.wanting.Wanted.{Wanted}
use Rattle.hb_activity.specs.declared.activities.Activity.{Activity}
use Rattle.hb_activity.specs.declared.activities.Activity.TheVariants as at
use Rattle.hb_store.specs.declared.stops.StopWhy.TheVariants.{Damaged}
use Rattle.hb_store.specs.declared.stops.Why.{Why}
use Rattle.hb_activity.specs.declared.dropping.DropWhy.{DropWhy}
use Rattle.hb_activity.specs.declared.dropping.DropWhy.TheVariants as drops
use Rattle.hb_steps.specs.declared.outcomes.Outcome.{Outcome}
use Rattle.hb_steps.specs.declared.outcomes.Outcome.TheVariants as outcomes
use Rattle.hb_activity.specs.Deeds.{Deed}
pub use Rattle.hb_steps.specs.Decoding.{Decodes, GathersThere}
use Rattle.hb_steps.specs.Asking.{AskedBox, asked_box, wanted_by}
use Rattle.hb_steps.specs.Fetching.{Brings, IsBadHead, IsDamaged, IsFreeHead, IsWantedPage}
use Rattle.hb_steps.specs.GivingUp.{gives_up}
use Rattle.hb_steps.specs.Machines.{Files, Machine, live_here, stopped_for, with_disk, with_uses, sight}
use Rattle.hb_steps.specs.Performing.{Performs, latches_held}
use Rattle.hb_steps.specs.Using.{CameFor, page_wanted, pages_of, use_number, use_wanted}
use Rattle.hb_pool.specs.Frames.{Use}
use Rattle.hb_store.specs.Held.{IsTied}
use Rattle.hb_store.specs.Making.{TakesMemory}
use Rattle.hb_steps.specs.Rows.{IsAtHand, Row}
use Rattle.hb_poster.specs.PosterRows.{MayGrow}
use Rattle.hb_store.specs.States.{StoreState, in_memory}
use Rattle.hb_store.specs.Fetching.{IsNoPage}
use Rattle.hb_terms.specs.Plans.{IsPlan}

-- an operation takes a number for the page that it makes
abbrev pub takes_number : Option Op → Bool
takes_number (Some (ops.Extract source fresh path cuts free_after)) = true
takes_number (Some (ops.Grow fresh free_after)) = true
takes_number other = false

-- A step that may be done. Its pages came into memory, the free head only where a number is taken, and its row is done. The wanted page
-- is pinned for the step from when it came.
pub record DoesRow (m : Machine) (actor : ℕ) (outcome : Outcome) (new : Machine) : Type 0 where
  pub fetched : StoreState
  pub deed : Deed
  pub brings : Brings m (λ id. IsWantedPage (wanted_by m actor) id ⊎ (IsTrue (takes_number deed.op) × IsFreeHead m.store id)) fetched
  pub row : Row (m.activity actor) (wanted_by m actor) (with_disk fetched m.files m.clock m) deed
  pub performs : Performs m fetched actor deed outcome new
  pub came : performs.came ≡ use_number (takes_number deed.op) m.store.meta (use_wanted (wanted_by m actor) m.uses)
  pub pins : performs.pins ≡ page_wanted (wanted_by m actor) ++ pages_of (latches_held m.store (m.activity actor))
  pub tied : IsTied fetched performs.came

-- Whether a row takes a number for a page that it makes: a split, a growth, and a posting for which the parent has no room,
-- each where a page is free.
abbrev pub HasPlanned : Machine → Job → ℕ → LivePage → PostPlan → Type 0
HasPlanned m job parent child plan = (page : LivePage) × (live_here m.store parent ≡ Some page) × IsPlan page child job.point m.store.meta.icap plan

abbrev pub NeedsNumber : Activity → Option Wanted → Machine → Type 0
NeedsNumber (at.SessionSplit line held) wanted m = m.store.meta.live < m.store.meta.pages
NeedsNumber (at.PosterGrow job) (Some wanted) m = (m.store.meta.live < m.store.meta.pages) × (root : LivePage) × IsAtHand m (at.PosterGrow job) wanted root × MayGrow (sight m) job root
NeedsNumber (at.PosterAgain job parent) (Some wanted) m = (m.store.meta.live < m.store.meta.pages) × (child : LivePage) × IsAtHand m (at.PosterAgain job parent) wanted child × HasPlanned m job parent child SplitFirst
NeedsNumber other wanted m = ⊥

-- What a step needs: the page that it wants, and the free head where it takes a number. `fetched` is with what came.
abbrev pub MayNeed : Machine → ℕ → StoreState → ℕ → Type 0
MayNeed m actor fetched id = IsWantedPage (wanted_by m actor) id ⊎ (NeedsNumber (m.activity actor) (wanted_by m actor) (with_disk fetched m.files m.clock m) × IsFreeHead m.store id)

-- one of them isn't in memory, and is a page of the file
abbrev pub LacksNeeded : Machine → ℕ → StoreState → Type 0
LacksNeeded m actor fetched = (id : ℕ) × MayNeed m actor fetched id × (¬ (IsNoPage m.store.meta id)) × (in_memory fetched id ≡ None)

-- Or it is given up: a page that it needs couldn't be read; or memory was refused, for a page that is decoded or for the row's operation,
-- where that isn't one on records.
abbrev pub GivesUpFor : DropWhy → Machine → ℕ → StoreState → Type 0
GivesUpFor drops.ReadFault m actor fetched = LacksNeeded m actor fetched
GivesUpFor drops.NoMemory m actor fetched =
    Decodes (wanted_by m actor) (with_disk fetched m.files m.clock m) (m.activity actor)
    ⊎ ((deed : Deed) × Row (m.activity actor) (wanted_by m actor) (with_disk fetched m.files m.clock m) deed × IsSomeAnd deed.op TakesMemory)

pub record Abandons (m : Machine) (actor : ℕ) (outcome : Outcome) (new : Machine) : Type 0 where
  pub why : DropWhy
  pub fetched : StoreState
  pub brings : Brings m (MayNeed m actor fetched) fetched
  pub cause : GivesUpFor why m actor fetched
  pub performs : Performs m fetched actor (gives_up why (m.activity actor)) outcome new
  pub came : CameFor (wanted_by m actor) m.store.meta m.uses performs.came
  pub pins : performs.pins ≡ pages_of (latches_held m.store (m.activity actor))

-- Or a page was damaged: the machine is stopped.
abbrev pub IsBadWanted : Option Files → StoreState → Option Wanted → Option AskedBox → ℕ → Why → Type 0
IsBadWanted files st None asked page why = ⊥
IsBadWanted files st (Some wanted) None page why = ⊥
IsBadWanted files st (Some wanted) (Some asked) page why = (page ≡ wanted.page) × IsDamaged files st wanted asked why

pub record MeetsBadPage (m : Machine) (actor : ℕ) (outcome : Outcome) (new : Machine) : Type 0 where
  pub fetched : StoreState
  pub brings : Brings m (MayNeed m actor fetched) fetched
  pub page : ℕ
  pub why : Why
  pub bad : IsBadWanted m.files fetched (wanted_by m actor) (asked_box (m.activity actor) fetched) page why ⊎ (NeedsNumber (m.activity actor) (wanted_by m actor) (with_disk fetched m.files m.clock m) × IsBadHead m.files fetched page why)
  pub says : outcome ≡ outcomes.Stopped (Damaged page why)
  pub came : List Use
  pub came_is : CameFor (wanted_by m actor) m.store.meta m.uses came
  pub tied : IsTied fetched came
  pub stops : new ≡ stopped_for (Damaged page why) (with_uses came (with_disk fetched m.files m.clock m))
