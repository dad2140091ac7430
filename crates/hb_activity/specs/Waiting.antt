-- Which actor waits for which, and which pages come later than which.
use Rattle.std.specs.Prelude.{◌≡◌, ℕ, ◌<◌, ◌⊎◌, List, [], ◌∷◌, Option, Some}
use Rattle.hb_space.specs.Boxes.{volume}
use Rattle.hb_frag.specs.declared.pages.LivePage.{LivePage}
use Rattle.hb_latch.specs.Tables.{HeldModes, KeepsFrom}
use Rattle.hb_activity.specs.declared.wanting.Wanted.{Wanted}

-- An actor waits for another one: the latch that its next step wants conflicts with one that the other holds on that
-- page. Who waits for a lock on a box waits elsewhere: hb_boxlock has these locks.
pub record WaitsFor (modes : HeldModes) (wants : ℕ → Option Wanted) (actor other : ℕ) : Type 0 where
  pub wanted : Wanted
  pub wants_it : wants actor ≡ Some wanted
  pub kept : KeepsFrom modes actor wanted.page wanted.mode other

-- The page b comes later than the page a: its level is lower, or the level is the same and its box has fewer points.
abbrev pub IsLater : LivePage → LivePage → Type 0
IsLater a b = (b.level < a.level) ⊎ ((b.level ≡ a.level) × (volume b.area < volume a.area))

-- pages of which each next one comes later than the one before
abbrev pub GetLater : LivePage → List LivePage → Type 0
GetLater first [] = Unit {0}
GetLater first (next ∷ rest) = IsLater first next × GetLater next rest

-- the last of them
abbrev pub last_page : LivePage → List LivePage → LivePage
last_page first [] = first
last_page first (next ∷ rest) = last_page next rest
