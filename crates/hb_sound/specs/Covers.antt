-- Rules 1 to 6, 9 and 10, by the facts of the pages.
use Rattle.std.specs.Prelude.{◌≡◌, ◌≢◌, ◌⊎◌, ℕ, ◌+◌, ◌<◌, ◌≤◌, List, length, slice_get, Option, Some, None, ◌↔◌, Bool, true, [], ◌∷◌, Contains}
use Rattle.hb_space.specs.Boxes.{Area, whole_area}
use Rattle.hb_layout.specs.declared.meta.Meta.{Meta}
use Rattle.hb_sound.specs.declared.page_facts.Seen.{Seen}
use Rattle.hb_sound.specs.declared.page_facts.Fact.{Fact}
use Rattle.hb_sound.specs.declared.page_facts.Fact.TheVariants.{Live, Free}
use Rattle.hb_sound.specs.declared.names.Times.{Times}
use Rattle.hb_sound.specs.declared.names.Times.TheVariants.{Once}
use Rattle.hb_sound.specs.Facts.{seen_at, next_at}
use Rattle.hb_sound.specs.Told.{item_at}
use Rattle.hb_sound.specs.Walks.{IsLeast, IsLeftOut, IsChainWalk}

-- the root is seen at the top, and has the whole space
abbrev pub SeesTop : Meta → List Fact → Type 0
SeesTop meta facts = (seen : Seen) × (seen_at facts meta.root ≡ Some seen) × (seen.level + 1 ≡ meta.height) × (seen.area ≡ whole_area meta.k)

-- this is the first rule that the page breaks by itself
abbrev pub HasRule : ℕ → Fact → Type 0
HasRule rule (Live seen) = seen.rule ≡ rule
HasRule rule (Free next) = ⊥

abbrev pub SeesSome : (Fact → Type 0) → List Fact → ℕ → Type 0
SeesSome q facts id = (fact : Fact) × (item_at facts id ≡ Some fact) × q fact

abbrev pub SeesRule : List Fact → ℕ → ℕ → Type 0
SeesRule facts rule id = SeesSome (HasRule rule) facts id

-- the least page for the least rule from 3 to 6
pub record IsLeastRule (facts : List Fact) (id rule : ℕ) : Type 0 where
  pub some : 3 ≤ rule
  pub few : rule ≤ 6
  pub page : IsLeast (SeesRule facts rule) id
  pub least : (lesser other : ℕ) → 3 ≤ lesser → lesser < rule → ¬ (SeesRule facts lesser other)

-- the page has this level and box
abbrev pub HasBox : ℕ → Area → Fact → Type 0
HasBox level area (Live seen) = (seen.level ≡ level) × (seen.area ≡ area)
HasBox level area (Free next) = ⊥

-- the least page of the whole space of each level, or a level that has none
abbrev pub AreFirsts : List Fact → ℕ → Area → List ℕ → Type 0
AreFirsts facts height whole firsts = (length firsts ≡ height)
    × ((level first : ℕ) → slice_get firsts level ≡ Some first → IsLeast (SeesSome (HasBox level whole) facts) first)

abbrev pub LacksLevel : List Fact → ℕ → Area → Type 0
LacksLevel facts height whole = (level : ℕ) × (level < height) × ((id : ℕ) → ¬ (SeesSome (HasBox level whole) facts id))

-- the levels of the pages in use are below the height
abbrev pub AreBelow : ℕ → List Fact → Type 0
AreBelow height facts = (id : ℕ) (seen : Seen) → seen_at facts id ≡ Some seen → seen.level < height

-- of the whole space beside a lesser page of its level, or of less and not named once
abbrev pub IsLooseSeen : List Fact → Area → ℕ → Seen → Times → Type 0
IsLooseSeen facts whole id seen times =
    ((seen.area ≡ whole) × (other : ℕ) × (other < id) × SeesSome (HasBox seen.level whole) facts other)
    ⊎ ((seen.area ≢ whole) × (times ≢ Once))

abbrev pub IsLooseFact : List Fact → Area → ℕ → Times → Fact → Type 0
IsLooseFact facts whole id times (Live seen) = IsLooseSeen facts whole id seen times
IsLooseFact facts whole id times (Free next) = ⊥

abbrev pub SeesLoose : List Fact → List Times → Area → ℕ → Type 0
SeesLoose facts named whole id = (seen : Seen) × (times : Times) × (seen_at facts id ≡ Some seen) × (item_at named id ≡ Some times) × IsLooseSeen facts whole id seen times

-- rule 9 is kept, or this page is named for it
abbrev pub IsCoverBreak : Meta → List Fact → List Times → Option ℕ → Type 0
IsCoverBreak meta facts named None =
    (¬ (LacksLevel facts meta.height (whole_area meta.k))) × ((id : ℕ) → ¬ (SeesLoose facts named (whole_area meta.k) id))
IsCoverBreak meta facts named (Some id) =
    ((id ≡ 0) × LacksLevel facts meta.height (whole_area meta.k))
    ⊎ ((¬ (LacksLevel facts meta.height (whole_area meta.k))) × IsLeast (SeesLoose facts named (whole_area meta.k)) id)

-- exactly the numbers of the chain are flagged
abbrev pub IsChained : List ℕ → List Bool → Type 0
IsChained chain flags = (id : ℕ) → Contains chain id ↔ (item_at flags id ≡ Some true)

-- how many facts are of pages in use
abbrev pub live_fact : Fact → ℕ
live_fact (Live seen) = 1
live_fact (Free next) = 0

abbrev pub live_facts : List Fact → ℕ
live_facts [] = 0
live_facts (fact ∷ rest) = live_fact fact + live_facts rest

abbrev pub IsFreeFact : Fact → Type 0
IsFreeFact (Live seen) = ⊥
IsFreeFact (Free next) = Unit {0}

-- the chain ends at 0 and leaves out no free page, and the pages in use are counted
pub record KeepsChain (meta : Meta) (facts : List Fact) (chain : List ℕ) (end : ℕ) : Type 0 where
  pub ends : end ≡ 0
  pub all : (id : ℕ) → ¬ (IsLeftOut (next_at facts) chain id)
  pub live : meta.live ≡ live_facts facts

-- rule 2 is kept, or this page is named for it
abbrev pub IsFreeBreak : Meta → List Fact → Option ℕ → Type 0
IsFreeBreak meta facts broken = (chain : List ℕ) × (end : ℕ) × IsChainWalk (next_at facts) meta.free chain end × tells chain end broken
  where
    tells : List ℕ → ℕ → Option ℕ → Type 0
    tells chain end None = KeepsChain meta facts chain end
    tells chain end (Some id) = (¬ (KeepsChain meta facts chain end))
        × (IsLeast (IsLeftOut (next_at facts) chain) id ⊎ ((id ≡ end) × ((other : ℕ) → ¬ (IsLeftOut (next_at facts) chain other))))
