-- What follows of this row.
use Rattle.std.specs.Prelude.{◌≡◌, ℕ, List, [], ◌∷◌, None}
use Rattle.hb_space.specs.declared.records.Record.{Record}
use Rattle.hb_frag.specs.declared.pages.LivePage.{LivePage}
use Rattle.hb_set.specs.declared.scripts.Line.{Line}
use Rattle.hb_activity.specs.Deeds.{Deed}
use Rattle.hb_activity.specs.Sights.{Sight}
use Rattle.hb_search.specs.SearchRows.{Gathers}
use Rattle.hb_search.specs.Searching.{IsGathering}
use Rattle.hb_space.specs.Boxes.{Area}

-- A search has one deed at a page.
abbrev pub SearchesHaveOneDeed : Type 0
SearchesHaveOneDeed = (s : Sight) (line : Line) (rest : List Area) (found : List Record) (page : LivePage) (p : List ℕ) (deed other : Deed) →
    Gathers s line rest found page p deed → Gathers s line rest found page p other → deed ≡ other

-- It does no operation, and gives no worker a job.
abbrev pub SearchesChangeNothing : Type 0
SearchesChangeNothing = (s : Sight) (line : Line) (rest : List Area) (found : List Record) (page : LivePage) (p : List ℕ) (deed : Deed) →
    Gathers s line rest found page p deed → (deed.op ≡ None) × (deed.adds ≡ [])

-- A search begins with its own box, and nothing found.
abbrev pub SearchesBeginApart : Type 0
SearchesBeginApart = (area : Area) → IsGathering (area ∷ []) []
