-- Which pages a step brings into memory, as a law.
use Rattle.std.specs.Prelude.{◌≡◌, ◌⊎◌, ℕ, ◌+◌, ◌<◌, None, IsSome}
use Rattle.hb_activity.specs.declared.activities.Activity.{Activity}
use Rattle.hb_activity.specs.declared.activities.Activity.TheVariants as at
use Rattle.hb_steps.specs.declared.outcomes.Outcome.{Outcome}
use Rattle.hb_steps.specs.Asking.{HasWayFree, wanted_by}
use Rattle.hb_steps.specs.Fetching.{IsFreeHead, IsWantedPage}
use Rattle.hb_steps.specs.Machines.{Machine}
use Rattle.hb_steps.specs.Steps.{IsUnready, StepsTo}
use Rattle.hb_store.specs.States.{StoreState, in_memory}

-- The activities that make a page: a split, a growth, and a posting, which may split its parent first.
abbrev pub MayMakePage : Activity → Type 0
MayMakePage (at.SessionSplit line held) = Unit {0}
MayMakePage (at.PosterGrow job) = Unit {0}
MayMakePage (at.PosterAgain job parent) = Unit {0}
MayMakePage other = ⊥

-- The number of the next page that is made: the first of the free chain, or where that has none the one behind the highest page.
abbrev pub IsNextNumber : StoreState → ℕ → Type 0
IsNextNumber st id = IsFreeHead st id ⊎ ((st.meta.free ≡ 0) × (id ≡ st.meta.high + 1))

-- a page is made, as one is free, and this is its number
abbrev pub IsToBeMade : Machine → ℕ → ℕ → Type 0
IsToBeMade m actor id = MayMakePage (m.activity actor) × (m.store.meta.live < m.store.meta.pages) × IsNextNumber m.store id

-- A step needs a page: nobody is in its way, it needn't flush first, and it wants this page, or makes a page of this number.
pub record NeedsPage (m : Machine) (actor id : ℕ) : Type 0 where
  pub way_free : HasWayFree m actor
  pub ready : ¬ (IsUnready m actor)
  pub needed : IsWantedPage (wanted_by m actor) id ⊎ IsToBeMade m actor id

-- No page comes into memory but one that the step needs.
abbrev pub PagesComeByNeed : Type 0
PagesComeByNeed = (m : Machine) (actor : ℕ) (outcome : Outcome) (new : Machine) (id : ℕ) → StepsTo m actor outcome new →
    in_memory m.store id ≡ None → IsSome (in_memory new.store id) → NeedsPage m actor id
