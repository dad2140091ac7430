-- What a core looks at for a step, by what its store has in memory.
use Rattle.std.specs.Prelude.{◌≡◌, ◌≢◌, ℕ, Option, Some, None, IsSome, MatchOption}
use Rattle.std.specs.Option.{option_and_then}
use Rattle.hb_activity.specs.declared.activities.Activity.{Activity}
use Rattle.hb_activity.specs.declared.activities.Activity.TheVariants as at
use Rattle.hb_activity.specs.declared.wanting.Wanted.{Wanted}
use Rattle.hb_activity.specs.Wanting.{CanLook, LooksIntoPage, wanted_of}
use Rattle.hb_frag.specs.declared.pages.LivePage.{LivePage}
use Rattle.hb_frag.specs.declared.pages.Page.{Page}
use Rattle.hb_frag.specs.declared.pages.Page.TheVariants.{Live, Free}
use Rattle.hb_store.specs.declared.stops.Why.{Why}
use Rattle.hb_store.specs.States.{StoreState, in_memory}
use Rattle.hb_steps.specs.AskedBoxes.{HasItsBox, IsNotAsked}
use Rattle.hb_steps.specs.Asking.{asked_box, looked_live}
use Rattle.hb_steps.specs.Machines.{live_here}

-- the page into which an activity looks is in memory, and can be looked into
pub record MayLook (st : StoreState) (activity : Activity) : Type 0 where
  pub given : LooksIntoPage activity → IsSome (looked_live st activity)
  pub readable : CanLook activity (looked_live st activity)

-- the latch that its next step wants, by what a store has in memory
abbrev pub wanted_in : StoreState → Activity → Option Wanted
wanted_in st activity = wanted_of activity st.meta (looked_live st activity)

-- The page of a wanted number passes the test of its level and its box.
pub record PassesTest (st : StoreState) (activity : Activity) (wanted : Wanted) : Type 0 where
  pub page : LivePage
  pub live : live_here st wanted.page ≡ Some page
  pub level : page.level ≡ wanted.level
  pub box : HasItsBox (asked_box activity st) page

-- Why the page of a wanted number fails the test of its level and its box. Where no box is asked for, the level alone is tested.
abbrev pub IsOfOtherLevel : Wanted → Page → Type 0
IsOfOtherLevel wanted (Live page) = page.level ≢ wanted.level
IsOfOtherLevel wanted (Free next) = Unit {0}

abbrev pub FailsTest : StoreState → Activity → Wanted → Why → Type 0
FailsTest st activity wanted why = (page : Page) × (in_memory st wanted.page ≡ Some page)
    × MatchOption (asked_box activity st) (IsOfOtherLevel wanted page) (λ asked. IsNotAsked wanted asked page why)

-- the number of the page that a row speaks of, the wanted one or the held one; and of the half that left, or the parent, which it reads
abbrev pub number_of_row : Activity → Option Wanted → ℕ
number_of_row activity (Some wanted) = wanted.page
number_of_row (at.SessionSplit line held) None = held
number_of_row (at.SessionPut line source fresh) None = source
number_of_row other None = 0

abbrev pub other_number : Activity → Option ℕ
other_number (at.SessionPut line source fresh) = Some fresh
other_number (at.PosterChild job parent) = Some parent
other_number (at.PosterAgain job parent) = Some parent
other_number (at.ConsolidatorScan job parent child) = Some parent
other_number (at.ConsolidatorTry job parent keep gone leaf) = Some parent
other_number (at.ConsolidatorDecide job parent keep gone) = Some parent
other_number other = None

abbrev pub other_page : StoreState → Activity → Option LivePage
other_page st activity = option_and_then (live_here st) (other_number activity)
