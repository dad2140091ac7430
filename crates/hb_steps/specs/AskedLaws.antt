-- That the deciders may be asked at the page that a kept machine's step has at hand, as laws.
use Rattle.std.specs.Prelude.{◌≡◌, ◌⊎◌, ℕ, List, Option, Some, None, IsSome}
use Rattle.hb_space.specs.Boxes.{Area, Holds}
use Rattle.hb_space.specs.Points.{IsPoint}
use Rattle.hb_space.specs.declared.records.Record.{Record}
use Rattle.hb_frag.specs.declared.pages.LivePage.{LivePage}
use Rattle.hb_space.specs.Actors.{IsActor}
use Rattle.hb_layout.specs.Limits.{IsLayout}
use Rattle.hb_ops.specs.Sound.{FitsFile}
use Rattle.hb_set.specs.declared.scripts.Line.{Line}
use Rattle.hb_activity.specs.declared.jobs.Job.{Job}
use Rattle.hb_activity.specs.declared.wanting.Wanted.{Wanted}
use Rattle.hb_activity.specs.declared.activities.Activity.TheVariants as at
use Rattle.hb_activity.specs.Deciding.{FitsFree}
use Rattle.hb_activity.specs.Walks.{walk_point}
use Rattle.hb_consol.specs.Asks.{MayAskToMerge}
use Rattle.hb_point.specs.Asks.{MayAsk}
use Rattle.hb_point.specs.SessionRows.{WantsBoxes}
use Rattle.hb_poster.specs.Asks.{MayBeAsked}
use Rattle.hb_search.specs.Searching.{MaySearch}
use Rattle.hb_store.specs.States.{StoreState}
use Rattle.hb_steps.specs.AllowedLaws.{AnyPage}
use Rattle.hb_steps.specs.Asking.{wanted_by}
use Rattle.hb_steps.specs.Fetching.{Brings}
use Rattle.hb_steps.specs.KeptMachine.{MachineKeeps}
use Rattle.hb_steps.specs.KeptMerges.{merging_at}
use Rattle.hb_steps.specs.Looking.{other_page}
use Rattle.hb_steps.specs.LookingToMerge.{second_page}
use Rattle.hb_steps.specs.Machines.{Machine, live_here, with_disk}
use Rattle.hb_steps.specs.Rows.{IsAtHand}

-- Every page in memory keeps the rules that speak of a page alone, in a file within its limits. So does the page at hand.
abbrev pub PagesAtHandFit : Type 0
PagesAtHandFit = (m : Machine) (fetched : StoreState) (id : ℕ) (page : LivePage) → MachineKeeps m → Brings m AnyPage fetched → live_here fetched id ≡ Some page → IsLayout m.store.meta × FitsFile m.store.meta page

-- The page at hand of a walk has the walk's point in its box. That it is a point, with values below 2 ^ 64, nothing of the machine
-- says: a body knows it of every point that it has.
abbrev pub WalksStayInside : Type 0
WalksStayInside = (m : Machine) (actor : ℕ) (fetched : StoreState) (wanted : Wanted) (page : LivePage) (p : List ℕ) → IsActor actor → MachineKeeps m → Brings m AnyPage fetched →
    walk_point (m.activity actor) ≡ Some p → IsPoint p → wanted_by m actor ≡ Some wanted → IsAtHand (with_disk fetched m.files m.clock m) (m.activity actor) wanted page → Holds page.area p

-- A walk of a command on a point may ask the decider of such commands.
abbrev pub PointsMayBeAsked : Type 0
PointsMayBeAsked = (m : Machine) (actor : ℕ) (fetched : StoreState) (line : Line) (held : Option ℕ) (rest : List Area) (found : List Record) (wanted : Wanted) (page : LivePage) (free : Option (ℕ × ℕ)) (p : List ℕ) →
    IsActor actor → MachineKeeps m → Brings m AnyPage fetched → m.activity actor ≡ at.SessionWalk line held rest found → (WantsBoxes line.command → ⊥) → walk_point (m.activity actor) ≡ Some p → IsPoint p →
    wanted_by m actor ≡ Some wanted → IsAtHand (with_disk fetched m.files m.clock m) (m.activity actor) wanted page → MayAsk (m.activity actor) m.store.meta free wanted.page page None

-- A walk of a search may ask the decider of searches.
abbrev pub SearchesMayBeAsked : Type 0
SearchesMayBeAsked = (m : Machine) (actor : ℕ) (fetched : StoreState) (line : Line) (held : Option ℕ) (rest : List Area) (found : List Record) (wanted : Wanted) (page : LivePage) (p : List ℕ) →
    IsActor actor → MachineKeeps m → Brings m AnyPage fetched → m.activity actor ≡ at.SessionWalk line held rest found → WantsBoxes line.command → walk_point (m.activity actor) ≡ Some p → IsPoint p →
    wanted_by m actor ≡ Some wanted → IsAtHand (with_disk fetched m.files m.clock m) (m.activity actor) wanted page → MaySearch (m.activity actor) page

-- The page that is to be split is still in memory, and the decider may be asked with it.
pub record AsksToSplit (m : Machine) (actor : ℕ) (fetched : StoreState) (free : Option (ℕ × ℕ)) (held : ℕ) : Type 0 where
  pub page : LivePage
  pub live : live_here fetched held ≡ Some page
  pub may : MayAsk (m.activity actor) m.store.meta free held page None

-- So it is of each session that is to split a page, where a number is given exactly if a page is free.
abbrev pub SplitsMayBeAsked : Type 0
SplitsMayBeAsked = (m : Machine) (actor : ℕ) (fetched : StoreState) (line : Line) (held : ℕ) (free : Option (ℕ × ℕ)) → IsActor actor → MachineKeeps m → Brings m AnyPage fetched →
    m.activity actor ≡ at.SessionSplit line held → FitsFree m.store.meta free → AsksToSplit m actor fetched free held

-- Both halves of a page that was split are still in memory, and the decider may be asked with them.
pub record AsksToPut (m : Machine) (actor : ℕ) (fetched : StoreState) (free : Option (ℕ × ℕ)) (source fresh : ℕ) : Type 0 where
  pub page : LivePage
  pub live : live_here fetched source ≡ Some page
  pub other : LivePage
  pub other_live : live_here fetched fresh ≡ Some other
  pub may : MayAsk (m.activity actor) m.store.meta free source page (Some other)

-- So it is of each session that is to put its record into one of them.
abbrev pub PutsMayBeAsked : Type 0
PutsMayBeAsked = (m : Machine) (actor : ℕ) (fetched : StoreState) (line : Line) (source fresh : ℕ) (free : Option (ℕ × ℕ)) → IsActor actor → MachineKeeps m → Brings m AnyPage fetched →
    m.activity actor ≡ at.SessionPut line source fresh → AsksToPut m actor fetched free source fresh

-- The poster may ask at the page of its walk.
abbrev pub PosterWalksMayBeAsked : Type 0
PosterWalksMayBeAsked = (m : Machine) (actor : ℕ) (fetched : StoreState) (job : Job) (held : Option ℕ) (wanted : Wanted) (page : LivePage) → IsActor actor → MachineKeeps m → Brings m AnyPage fetched →
    m.activity actor ≡ at.PosterWalk job held → IsPoint job.point → wanted_by m actor ≡ Some wanted → IsAtHand (with_disk fetched m.files m.clock m) (m.activity actor) wanted page → MayBeAsked (m.activity actor) m.store.meta page None

-- The parent is still in memory, and the decider may be asked with it at the child.
pub record AsksWithParent (m : Machine) (actor : ℕ) (fetched : StoreState) (parent : ℕ) (page : LivePage) : Type 0 where
  pub over : LivePage
  pub live : live_here fetched parent ≡ Some over
  pub may : MayBeAsked (m.activity actor) m.store.meta page (Some over)

-- So it is of the poster where it looks at a child, and where it looks again.
abbrev pub ChildrenMayBeAsked : Type 0
ChildrenMayBeAsked = (m : Machine) (actor : ℕ) (fetched : StoreState) (job : Job) (parent : ℕ) (wanted : Wanted) (page : LivePage) → IsActor actor → MachineKeeps m → Brings m AnyPage fetched →
    (m.activity actor ≡ at.PosterChild job parent) ⊎ (m.activity actor ≡ at.PosterAgain job parent) → wanted_by m actor ≡ Some wanted → IsAtHand (with_disk fetched m.files m.clock m) (m.activity actor) wanted page →
    AsksWithParent m actor fetched parent page

-- To give the file a level, and to have the parent alone, it may ask at any page.
abbrev pub OthersMayBeAsked : Type 0
OthersMayBeAsked = (m : Machine) (actor : ℕ) (job : Job) (parent : ℕ) (page : LivePage) → (m.activity actor ≡ at.PosterGrow job) ⊎ (m.activity actor ≡ at.PosterPromote job parent) → MayBeAsked (m.activity actor) m.store.meta page None

-- The consolidator may ask at the page of its walk.
abbrev pub MergerWalksMayBeAsked : Type 0
MergerWalksMayBeAsked = (m : Machine) (actor : ℕ) (fetched : StoreState) (job : Job) (held : Option ℕ) (wanted : Wanted) (page : LivePage) → IsActor actor → MachineKeeps m → Brings m AnyPage fetched →
    m.activity actor ≡ at.ConsolidatorWalk job held → IsPoint job.point → wanted_by m actor ≡ Some wanted → IsAtHand (with_disk fetched m.files m.clock m) (m.activity actor) wanted page → MayAskToMerge (m.activity actor) m.store.meta page None None

-- Where it stands at a parent, that and the page to keep are still in memory, and the decider may be asked with them at any page.
abbrev pub PairsMayBeAsked : Type 0
PairsMayBeAsked = (m : Machine) (actor : ℕ) (fetched : StoreState) (page : LivePage) → IsActor actor → MachineKeeps m → Brings m AnyPage fetched → IsSome (merging_at (m.activity actor)) →
    MayAskToMerge (m.activity actor) m.store.meta page (other_page fetched (m.activity actor)) (second_page fetched (m.activity actor))
