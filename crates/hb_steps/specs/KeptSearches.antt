-- What every machine keeps of its searches: over any disk, and over one that tells.
use Rattle.std.specs.Prelude.{◌≡◌, ◌↔◌, ℕ, List, All, Any, Contains, Option, Some}
use Rattle.std.specs.FinMap as map
use Rattle.hb_space.specs.Boxes.{Area, Holds, Within}
use Rattle.hb_space.specs.declared.records.Record.{Record}
use Rattle.hb_set.specs.Machine.{RecordSet}
use Rattle.hb_set.specs.declared.commands.Command.TheVariants.{Search}
use Rattle.hb_set.specs.declared.scripts.Line.{Line}
use Rattle.hb_activity.specs.declared.activities.Activity.TheVariants as at
use Rattle.hb_search.specs.Searching.{IsGathering, StaysGathering}
use Rattle.hb_steps.specs.Machines.{Files, Machine, current_file}
use Rattle.hb_ops.specs.Files.{contents_of}

-- What each search has between two pages is apart.
abbrev pub SearchesGather : Machine → Type 0
SearchesGather m = (actor : ℕ) → StaysGathering (m.activity actor)

-- a record of the contents
abbrev pub IsAmong : RecordSet → Record → Type 0
IsAmong contents r = map.get contents r.key ≡ Some r.body

-- The boxes that remain of a search lie in its box. It has found exactly the records of the contents that its box holds and none of
-- these does.
pub record HasFoundSoFar (contents : RecordSet) (box : Area) (rest : List Area) (found : List Record) : Type 0 where
  pub within : All (λ a. Within a box) rest
  pub gathering : IsGathering rest found
  pub exact : (r : Record) → Contains found r ↔ (IsAmong contents r × Holds box r.key × ¬ (Any (λ (a : Area). Holds a r.key) rest))

-- So each search that walks.
abbrev pub SearchesAreExact : Machine → Files → Type 0
SearchesAreExact m files = (actor : ℕ) (line : Line) (held : Option ℕ) (rest : List Area) (found : List Record) (box : Area) → m.activity actor ≡ at.SessionWalk line held rest found → line.command ≡ Search box →
    HasFoundSoFar (contents_of (current_file files)) box rest found
