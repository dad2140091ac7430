-- What contracts see of a table of latches.
use Rattle.std.specs.Prelude.{◌≢◌, ℕ, ◌<◌, ◌==◌, count_by, Option, IsTrue, IfSome, IsSomeAnd}
use Rattle.std.specs.Ordering.{nat_cmp, ordering_then}
use Rattle.std.specs.FinMap as map
use Rattle.std.specs.declared.cmp.Ordering.{Ordering}
use Rattle.hb_latch.specs.declared.modes.Mode.{Mode}
use Rattle.hb_latch.specs.Modes.{goes_beside}

-- keys, each an actor and a page, in the order of their actors, and those of one actor in the order of their pages
abbrev pub latch_cmp : ℕ × ℕ → ℕ × ℕ → Ordering
latch_cmp k l = ordering_then (nat_cmp k.0 l.0) (nat_cmp k.1 l.1)

-- a table: in which mode an actor holds a page
abbrev pub LatchTable : Type 0
LatchTable = map.FinMap latch_cmp Mode

-- the mode in which the actor holds the page, if it does
abbrev pub mode_at : LatchTable → ℕ → ℕ → Option Mode
mode_at table actor page = map.get table (actor, page)

-- the same with no table: in which mode each actor holds each page
abbrev pub HeldModes : Type 0
HeldModes = ℕ → ℕ → Option Mode

-- how many latches the actor holds
abbrev pub latches_of : LatchTable → ℕ → ℕ
latches_of table actor = count_by (λ e. e.0.0 == actor) (map.entries table)

-- the actor may have the page in the mode: what others hold there goes beside it
abbrev pub IsGrantable : HeldModes → ℕ → ℕ → Mode → Type 0
IsGrantable modes actor page mode = (other : ℕ) → other ≢ actor → IfSome (modes other page) (λ held. IsTrue (goes_beside mode held))

-- the other actor keeps the actor from the page in the mode
pub record KeepsFrom (modes : HeldModes) (actor page : ℕ) (mode : Mode) (other : ℕ) : Type 0 where
  pub another : other ≢ actor
  pub conflict : IsSomeAnd (modes other page) (λ held. ¬ (IsTrue (goes_beside mode held)))

-- it is the least one that does
pub record IsLeastInTheWay (modes : HeldModes) (actor page : ℕ) (mode : Mode) (other : ℕ) : Type 0 where
  pub keeps : KeepsFrom modes actor page mode other
  pub least : (earlier : ℕ) → earlier < other → ¬ (KeepsFrom modes actor page mode earlier)

-- the latches of different actors on one page go beside each other
abbrev pub AreCompatible : HeldModes → Type 0
AreCompatible modes = (actor other page : ℕ) → actor ≢ other → IfSome (modes actor page) (λ mode. IfSome (modes other page) (λ held. IsTrue (goes_beside mode held)))
