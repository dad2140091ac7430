-- What every machine keeps over a disk that tells, a record for each part.
use Rattle.std.specs.Prelude.{◌≡◌, ◌⊎◌, ℕ, ◌<◌, ◌≤◌, List, length, All, Some, IfSome, IsSome}
use Rattle.hb_frag.specs.declared.pages.LivePage.{LivePage}
use Rattle.hb_frag.specs.declared.pages.Page.{Page}
use Rattle.hb_set.specs.declared.commands.Command.TheVariants.{Insert}
use Rattle.hb_frag.specs.declared.pages.Page.TheVariants.{Live}
use Rattle.hb_latch.specs.declared.modes.Mode.{Mode}
use Rattle.hb_activity.specs.declared.activities.Activity.TheVariants as at
use Rattle.hb_activity.specs.declared.jobs.Job.{Job}
use Rattle.hb_activity.specs.Passing.{LeadsBelow}
use Rattle.hb_activity.specs.Walks.{walk_held, walk_point}
use Rattle.hb_activity.specs.Wanting.{onward_at}
use Rattle.hb_steps.specs.KeptMerges.{NamesKnown, merging_at}
use Rattle.hb_steps.specs.Machines.{Files, Machine, current_file, live_here, modes}
use Rattle.hb_frag.specs.Leaves.{DirectlyHolds, weight_of}
use Rattle.hb_latch.specs.Tables.{AreCompatible}
use Rattle.hb_space.specs.Actors.{IsActor}
use Rattle.hb_layout.specs.Limits.{IsLayout}
use Rattle.hb_ops.specs.Files.{page_of}
use Rattle.hb_ops.specs.Recording.{put_page}
use Rattle.hb_ops.specs.Sound.{IsSound}
use Rattle.hb_ops.specs.Standing.{StandsNot}
use Rattle.hb_space.specs.Boxes.{Holds}
use Rattle.hb_store.specs.States.{IsGoodPage, in_memory}

-- Every file is sound: the durable one, and that after each group that waits. What is in memory is the last one's.
pub record HasSoundFile (m : Machine) (files : Files) : Type 0 where
  pub durable : IsSound files.durable
  pub later : All IsSound files.later
  pub each : length files.later ≡ length m.store.log.groups
  pub layout : IsLayout m.store.meta
  pub meta : (current_file files).meta ≡ m.store.meta
  pub shown : (id : ℕ) (page : Page) → in_memory m.store id ≡ Some page → page_of (current_file files) id ≡ Some page

-- Every page in memory is one of the file, and keeps the rules that speak of a page alone. So it is over every disk.
abbrev pub HoldsPagesOfFile : Machine → Type 0
HoldsPagesOfFile m = (id : ℕ) (page : Page) → in_memory m.store id ≡ Some page → (1 ≤ id) × (id ≤ m.store.meta.high) × IsGoodPage m.store.meta page

-- Latches of different actors on one page go beside each other, and each is on a page in use, as is the page that a walk holds.
pub record LatchesFit (m : Machine) : Type 0 where
  pub compatible : AreCompatible (modes m)
  pub used : (actor page : ℕ) (mode : Mode) → modes m actor page ≡ Some mode → (live : LivePage) × (in_memory m.store page ≡ Some (Live live))
  pub walking : (actor held : ℕ) → walk_held (m.activity actor) ≡ Some held → (live : LivePage) × (in_memory m.store held ≡ Some (Live live))

-- The page that a walk holds has the walk's point in its box, and its leaf there names the page to which the walk goes on. The
-- parent that a poster holds is of the job's level, and
-- has a child leaf at the job's point. The parent that a consolidator holds is of the job's level, and names the pages that
-- the activity names; a page to keep that it holds is one level below it, and has a sibling leaf to the page to go.
pub record WalksInSpace (m : Machine) : Type 0 where
  pub held : (actor held : ℕ) (page : LivePage) → walk_held (m.activity actor) ≡ Some held → live_here m.store held ≡ Some page →
      IfSome (walk_point (m.activity actor)) (Holds page.area)
  pub leads : (actor held : ℕ) (page : LivePage) → walk_held (m.activity actor) ≡ Some held → live_here m.store held ≡ Some page →
      IfSome (walk_point (m.activity actor)) (λ p. IsSome (onward_at page p))
  pub parents : (actor : ℕ) (job : Job) (parent : ℕ) →
      (m.activity actor ≡ at.PosterChild job parent) ⊎ (m.activity actor ≡ at.PosterPromote job parent) ⊎ (m.activity actor ≡ at.PosterAgain job parent) →
      (page : LivePage) × (live_here m.store parent ≡ Some page) × (page.level ≡ job.level) × LeadsBelow page job
  pub merging : (actor : ℕ) → IfSome (merging_at (m.activity actor)) (NamesKnown m.store)

-- A data page that directly holds the point and has no record there.
pub record LacksRecordAt (m : Machine) (id : ℕ) (p : List ℕ) : Type 0 where
  pub page : LivePage
  pub live : live_here m.store id ≡ Some page
  pub level : page.level ≡ 0
  pub direct : DirectlyHolds page p
  pub absent : StandsNot page p

-- A page that is to be split directly holds the point of the insert, has no record there, and has no room for it. Of the
-- two halves, which are in use, one directly holds the point, has no record there, and has room; and not both hold it.
pub record LacksRoomFor (m : Machine) (held : ℕ) (p body : List ℕ) : Type 0 where
  pub home : LacksRecordAt m held p
  pub full : m.store.meta.dcap < weight_of (put_page (record { key = p; body = body }) home.page).frag

pub record HasRoomFor (m : Machine) (half : ℕ) (p body : List ℕ) : Type 0 where
  pub home : LacksRecordAt m half p
  pub room : weight_of (put_page (record { key = p; body = body }) home.page).frag ≤ m.store.meta.dcap

pub record OneHasRoom (m : Machine) (source fresh : ℕ) (p body : List ℕ) : Type 0 where
  pub first : LivePage
  pub second : LivePage
  pub first_live : live_here m.store source ≡ Some first
  pub second_live : live_here m.store fresh ≡ Some second
  pub not_both : DirectlyHolds first p → DirectlyHolds second p → ⊥
  pub room : HasRoomFor m source p body ⊎ HasRoomFor m fresh p body

pub record KnowsRoom (m : Machine) : Type 0 where
  pub splits : (actor held : ℕ) (line : _) → m.activity actor ≡ at.SessionSplit line held → (rec : _) × (line.command ≡ Insert rec) × LacksRoomFor m held rec.key rec.body
  pub puts : (actor source fresh : ℕ) (line : _) → m.activity actor ≡ at.SessionPut line source fresh →
      (rec : _) × (line.command ≡ Insert rec) × OneHasRoom m source fresh rec.key rec.body

-- Under every number that is no actor's an idle session stands.
abbrev pub HasNobodyElse : Machine → Type 0
HasNobodyElse m = (actor : ℕ) → ¬ (IsActor actor) → m.activity actor ≡ at.SessionIdle
