-- What the parts of the consolidator's decider say to each other.
use Rattle.std.specs.Prelude.{◌≡◌, ℕ, ◌+◌, ◌<◌, ◌==◌, ◌||◌, if◌then◌else◌, Bool, true, false, List, [], ◌∷◌, length, Option, Some, None}
use Rattle.hb_frag.specs.declared.leaves.Leaf.{Leaf}
use Rattle.hb_frag.specs.declared.pages.LivePage.{LivePage}
use Rattle.hb_frag.specs.Rules.{capacity_of}
use Rattle.hb_layout.specs.declared.meta.Meta.{Meta}
use Rattle.hb_terms.specs.Merging.{IsMergePlan}
use Rattle.hb_terms.specs.declared.merging.MergePlan.{MergePlan}
use Rattle.hb_activity.specs.declared.activities.Activity.{Activity}
use Rattle.hb_activity.specs.declared.activities.Activity.TheVariants as at
use Rattle.hb_consol.specs.ConsolidatorRows.{pair_among}
use Rattle.hb_consol.specs.declared.children.Earlier.{Earlier}
use Rattle.hb_consol.specs.declared.children.Earlier.TheVariants.{First, Other, Neither}
use Rattle.hb_consol.specs.declared.children.Sought.{Sought}
use Rattle.hb_consol.specs.declared.children.Sought.TheVariants.{Before, Behind, There}
use Rattle.hb_consol.specs.declared.scanning.Scanned.{Scanned}
use Rattle.hb_consol.specs.declared.scanning.Scanned.TheVariants.{Pair, Passed}

-- What a scan of these leaves found: the first pair, with its place among them; or none, and how many leaves they are.
abbrev pub IsScanned : LivePage → ℕ → List Leaf → Scanned → Type 0
IsScanned above from rest (Pair gone place) = (pair_among above from rest ≡ Some (gone, place)) × (place < length rest)
IsScanned above from rest (Passed count) = (pair_among above from rest ≡ None) × (count ≡ length rest)

-- The same as it is found behind so many leaves, and the number in it.
abbrev pub found_behind : ℕ → Scanned → Scanned
found_behind count (Pair gone place) = Pair gone (count + place)
found_behind count (Passed more) = Passed (count + more)

abbrev pub counts_behind : ℕ → Scanned → ℕ
counts_behind count (Pair gone place) = count + place
counts_behind count (Passed more) = count + more

-- Which of two names stands first in a list.
abbrev pub earlier_of : ℕ → ℕ → List ℕ → Earlier
earlier_of name other [] = Neither
earlier_of name other (first ∷ rest) = if first == name then First else if first == other then Other else earlier_of name other rest

abbrev pub is_first : Earlier → Bool
is_first First = true
is_first Other = false
is_first Neither = false

-- A search for the child behind another goes over one name of all, and over some from the left: before the child, its name is
-- passed; behind it, a name that doesn't stand before the child is the one.
abbrev pub sought_on : List ℕ → ℕ → Sought → ℕ → Sought
sought_on names child Before name = if name == child then Behind else Before
sought_on names child Behind name = if (name == child) || is_first (earlier_of name child names) then Behind else There name
sought_on names child (There found) name = There found

abbrev pub sought : List ℕ → ℕ → Sought → List ℕ → Sought
sought names child so_far [] = so_far
sought names child so_far (name ∷ rest) = sought names child (sought_on names child so_far name) rest

abbrev pub found_by : Sought → Option ℕ
found_by Before = None
found_by Behind = None
found_by (There name) = Some name

-- A pair is tried or decided.
abbrev pub HasPair : Activity → Type 0
HasPair (at.ConsolidatorTry job parent keep gone leaf) = Unit {0}
HasPair (at.ConsolidatorDecide job parent keep gone) = Unit {0}
HasPair other = ⊥

-- This is planned for a pair whose second page is at hand.
abbrev pub PlansMerge : Meta → ℕ → LivePage → LivePage → LivePage → MergePlan → Type 0
PlansMerge meta gone above kept page plan = IsMergePlan above kept gone page (capacity_of page.level meta.dcap meta.icap) plan
