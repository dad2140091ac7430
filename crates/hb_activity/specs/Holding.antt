-- Which latches an activity holds between two steps.
use Rattle.std.specs.Prelude.{ℕ, List, [], ◌∷◌, Option, Some}
use Rattle.hb_frag.specs.declared.pages.LivePage.{LivePage}
use Rattle.hb_latch.specs.declared.modes.Mode.{Mode}
use Rattle.hb_latch.specs.declared.modes.Mode.TheVariants.{Shared, Update, Exclusive}
use Rattle.hb_activity.specs.declared.holding.Latch.{Latch}
use Rattle.hb_activity.specs.declared.activities.Activity.{Activity}
use Rattle.hb_activity.specs.declared.activities.Activity.TheVariants.{SessionWalk, SessionSplit, SessionPut, PosterWalk, PosterChild, PosterPromote, PosterAgain, ConsolidatorWalk, ConsolidatorScan, ConsolidatorTry, ConsolidatorPromote, ConsolidatorKeep, ConsolidatorDecide}
use Rattle.hb_activity.specs.Walks.{session_mode, job_mode}

abbrev pub latch_on : ℕ → Mode → Latch
latch_on page mode = record { page = page; mode = mode }

-- the latch of a walk on the page that it holds, in the mode for its level
abbrev pub walk_latch : Option ℕ → Option LivePage → (ℕ → Mode) → List Latch
walk_latch (Some held) (Some page) mode = latch_on held (mode page.level) ∷ []
walk_latch held page mode = []

-- the latches of an activity; the page is the one that a walk holds
abbrev pub held_of : Activity → Option LivePage → List Latch
held_of (SessionWalk line held rest found) page = walk_latch held page (session_mode line.command)
held_of (SessionSplit line held) page = latch_on held Exclusive ∷ []
held_of (SessionPut line source fresh) page = latch_on source Exclusive ∷ latch_on fresh Exclusive ∷ []
held_of (PosterWalk job held) page = walk_latch held page (job_mode job)
held_of (PosterChild job parent) page = latch_on parent Update ∷ []
held_of (PosterPromote job parent) page = latch_on parent Update ∷ []
held_of (PosterAgain job parent) page = latch_on parent Exclusive ∷ []
held_of (ConsolidatorWalk job held) page = walk_latch held page (job_mode job)
held_of (ConsolidatorScan job parent child) page = latch_on parent Update ∷ []
held_of (ConsolidatorTry job parent keep gone leaf) page = latch_on parent Update ∷ latch_on keep Shared ∷ []
held_of (ConsolidatorPromote job parent keep gone) page = latch_on parent Update ∷ []
held_of (ConsolidatorKeep job parent keep gone) page = latch_on parent Exclusive ∷ []
held_of (ConsolidatorDecide job parent keep gone) page = latch_on parent Exclusive ∷ latch_on keep Exclusive ∷ []
held_of other page = []
