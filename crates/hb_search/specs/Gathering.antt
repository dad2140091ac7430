-- What the parts of the decider say to each other.
use Rattle.std.specs.Prelude.{◌≡◌, ℕ, List, [], ◌∷◌, ◌++◌, length, Option, MatchOption}
use Rattle.hb_frag.specs.Leaves.{WellCut}
use Rattle.hb_frag.specs.Rules.{AreInOrder}
use Rattle.hb_frag.specs.declared.pages.LivePage.{LivePage}
use Rattle.hb_layout.specs.declared.meta.Meta.{Meta}
use Rattle.hb_set.specs.declared.commands.Command.{Command}
use Rattle.hb_set.specs.declared.scripts.Line.{Line}
use Rattle.hb_activity.specs.Deciding.{deed_of, given_sight}
use Rattle.hb_activity.specs.Walks.{MeetsRecords, goal_of}
use Rattle.hb_activity.specs.declared.activities.Activity.{Activity}
use Rattle.hb_activity.specs.declared.activities.Activity.TheVariants as at
use Rattle.hb_activity.specs.declared.deciding.Next.{Next}
use Rattle.hb_search.specs.SearchRows.{SearchGoesOn}
use Rattle.hb_search.specs.Searching.{IsGathering, SearchRow, SearchesInside}
use Rattle.hb_space.specs.Boxes.{Area, Meets, common_area, pieces_outside}
use Rattle.hb_space.specs.declared.records.Record.{Record}

-- An answer is the row of a search at this page, whatever page the walk held before and whatever else was seen.
abbrev pub SearchesBy : Meta → Line → List Area → List Record → ℕ → LivePage → Next → Type 0
SearchesBy meta line rest found id page next = (held : Option ℕ) (pages : List (ℕ × LivePage)) (free : Option (ℕ × ℕ)) →
    SearchRow (at.SessionWalk line held rest found) (given_sight meta pages free) id page (deed_of (at.SessionWalk line held rest found) next)

-- It goes on with these boxes and records, whatever the search had before.
abbrev pub GoesOnBy : Meta → Line → List Area → List Record → Next → Type 0
GoesOnBy meta line boxes gathered next = (held : Option ℕ) (rest : List Area) (found : List Record) (pages : List (ℕ × LivePage)) (free : Option (ℕ × ℕ)) →
    SearchGoesOn (given_sight meta pages free) line boxes gathered (deed_of (at.SessionWalk line held rest found) next)

-- what remains of a search's boxes at a leaf with this box
abbrev pub boxes_then : List Area → Area → Area → List Area
boxes_then front at_hand area = front ++ pieces_outside at_hand (common_area at_hand area)

-- A leaf with this box is at the corner of the last box that remains, and its records are among those that were found. The search may go
-- on behind it.
pub record IsLeafBehind (rest : List Area) (found : List Record) (area : Area) : Type 0 where
  pub front : List Area
  pub at_hand : Area
  pub boxes : rest ≡ front ++ at_hand ∷ []
  pub same : length at_hand.lo ≡ length area.lo
  pub meets : Meets at_hand area
  pub stays : IsGathering (boxes_then front at_hand area) found

-- how a search goes on behind such a leaf
abbrev pub GoesBehind : Meta → Line → List Area → List Record → Area → Next → Type 0
GoesBehind meta line rest found area next = (front : List Area) (at_hand : Area) → rest ≡ front ++ at_hand ∷ [] →
    GoesOnBy meta line (boxes_then front at_hand area) found next

-- A search is at a page that keeps the rules of a page alone, and whose leaf at the corner of the last box that remains has records.
pub record StandsAtLeaf (command : Command) (rest : List Area) (found : List Record) (page : LivePage) : Type 0 where
  pub well_cut : WellCut page
  pub in_order : AreInOrder page
  pub inside : SearchesInside page command rest
  pub gathering : IsGathering rest found
  pub records : MatchOption (goal_of command rest) ⊥ (MeetsRecords page)

-- a session is, with a search in hand
abbrev pub MayGather : Activity → LivePage → Type 0
MayGather (at.SessionWalk line held rest found) page = StandsAtLeaf line.command rest found page
MayGather other page = ⊥

-- An answer is the row of a search, at whatever number and in whatever file.
abbrev pub SearchesAnyhow : Line → List Area → List Record → Next → LivePage → Type 0
SearchesAnyhow line rest found next page = (meta : Meta) (id : ℕ) → SearchesBy meta line rest found id page next
