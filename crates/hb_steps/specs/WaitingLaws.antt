-- Which actors wait for which, as laws: what a step wants comes later than what its actor holds, so no circle of actors waits,
-- and somebody may always go on.
use Rattle.std.specs.Prelude.{◌≡◌, ◌⊎◌, ℕ, List, [], ◌∷◌, Some, IsSome}
use Rattle.hb_frag.specs.declared.pages.LivePage.{LivePage}
use Rattle.hb_latch.specs.declared.modes.Mode.{Mode}
use Rattle.hb_latch.specs.declared.modes.Mode.TheVariants.{Update}
use Rattle.hb_activity.specs.declared.wanting.Wanted.{Wanted}
use Rattle.hb_activity.specs.declared.activities.Activity.{Activity}
use Rattle.hb_activity.specs.declared.activities.Activity.TheVariants.{SessionIdle, PosterPromote, ConsolidatorPromote}
use Rattle.hb_activity.specs.Waiting.{IsLater, WaitsFor}
use Rattle.hb_steps.specs.Asking.{IsInTheWay, wanted_by}
use Rattle.hb_steps.specs.Keeps.{HasNobodyElse, HasSoundFile, LatchesFit, WalksInSpace}
use Rattle.hb_steps.specs.Locking.{AwaitsBox}
use Rattle.hb_steps.specs.Machines.{Files, Machine, current_file, modes}
use Rattle.hb_steps.specs.SteppingLaws.{IsAtRest}
use Rattle.hb_space.specs.Actors.{IsActor}
use Rattle.hb_ops.specs.Files.{FileState, live_page}
use Rattle.hb_point.specs.SessionRows.{next_line}

-- The second page comes later than the first one: its level is lower, or the level is the same and its box holds fewer points.
pub record ComesLater (s : FileState) (id other : ℕ) : Type 0 where
  pub page : LivePage
  pub named : LivePage
  pub live : live_page s id ≡ Some page
  pub live_named : live_page s other ≡ Some named
  pub later : IsLater page named

-- The next step makes the actor's latch on this page exclusive.
abbrev pub Promotes : Activity → ℕ → Type 0
Promotes (PosterPromote job parent) id = id ≡ parent
Promotes (ConsolidatorPromote job parent keep gone) id = id ≡ parent
Promotes other id = ⊥

-- the page that a step wants is the one that its actor holds for update, to have it alone
pub record WantsItsOwn (m : Machine) (actor id : ℕ) (mode : Mode) (wanted : Wanted) : Type 0 where
  pub promotes : Promotes (m.activity actor) id
  pub same : wanted.page ≡ id
  pub update : mode ≡ Update

-- The page that a step wants comes later than each page that its actor holds, but for a promotion, whose actor holds that one
-- page alone.
abbrev pub WantedComesLater : Type 0
WantedComesLater = (m : Machine) (files : Files) (actor id : ℕ) (mode : Mode) (wanted : Wanted) → IsActor actor → LatchesFit m → HasSoundFile m files → WalksInSpace m →
    wanted_by m actor ≡ Some wanted → modes m actor id ≡ Some mode → ComesLater (current_file files) id wanted.page ⊎ WantsItsOwn m actor id mode wanted

-- An actor waits for another one, for its latch on a page or for its box; and so on, to the last.
abbrev pub AwaitsActor : Machine → ℕ → ℕ → Type 0
AwaitsActor m actor other = WaitsFor (modes m) (wanted_by m) actor other ⊎ AwaitsBox m actor other

abbrev pub WaitInSequence : Machine → ℕ → List ℕ → ℕ → Type 0
WaitInSequence m actor [] last = AwaitsActor m actor last
WaitInSequence m actor (next ∷ rest) last = AwaitsActor m actor next × WaitInSequence m next rest last

-- No actor waits for itself in this way.
abbrev pub NobodyWaitsInACircle : Type 0
NobodyWaitsInACircle = (m : Machine) (files : Files) (actor : ℕ) (rest : List ℕ) → LatchesFit m → HasSoundFile m files → HasNobodyElse m → WalksInSpace m → WaitInSequence m actor rest actor → ⊥

-- Where an actor is at work, not every actor at work is kept waiting.
abbrev pub HasWorkLeft : Machine → ℕ → Type 0
HasWorkLeft m actor = IsActor actor × (¬ (IsAtRest (m.activity actor)))

abbrev pub IsKeptWaiting : Machine → ℕ → Type 0
IsKeptWaiting m actor = (by : ℕ) × IsInTheWay m actor by

abbrev pub SomebodyGoesOn : Type 0
SomebodyGoesOn = (m : Machine) (files : Files) (actor : ℕ) → LatchesFit m → HasSoundFile m files → HasNobodyElse m → WalksInSpace m → HasWorkLeft m actor →
    ((other : ℕ) → HasWorkLeft m other → IsKeptWaiting m other) → ⊥

-- Whom an idle session waits for to lock its box is at work. So where an actor is under way, with something in hand or with a line to
-- take next, not every such actor is kept back, by a latch or by a box.
abbrev pub LockHoldersWork : Type 0
LockHoldersWork = (m : Machine) (actor other : ℕ) → HasNobodyElse m → AwaitsBox m actor other → HasWorkLeft m other

abbrev pub IsUnderWay : Machine → ℕ → Type 0
IsUnderWay m actor = HasWorkLeft m actor ⊎ ((m.activity actor ≡ SessionIdle) × IsSome (next_line actor m.answered m.lines))

abbrev pub IsKeptBack : Machine → ℕ → Type 0
IsKeptBack m actor = IsKeptWaiting m actor ⊎ ((by : ℕ) × AwaitsBox m actor by)

abbrev pub SomebodyUnderWayGoesOn : Type 0
SomebodyUnderWayGoesOn = (m : Machine) (files : Files) (actor : ℕ) → LatchesFit m → HasSoundFile m files → HasNobodyElse m → WalksInSpace m → IsUnderWay m actor →
    ((other : ℕ) → IsUnderWay m other → IsKeptBack m other) → ⊥
