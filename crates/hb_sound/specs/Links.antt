-- What the leaves of the pages name, by the facts of the pages, and what the first reading leaves of that to the second.
use Rattle.std.specs.Prelude.{◌≡◌, ◌⊎◌, ℕ, ◌≤◌, List, length, All, take, option_map, vec_len, Option, Some, None, Result, IfErr, IfSome, OnOk, ◌∷◌, []}
use Rattle.hb_frag.specs.declared.pages.LivePage.{LivePage}
use Rattle.hb_frag.specs.declared.pages.Page.{Page}
use Rattle.hb_frag.specs.declared.pages.Page.TheVariants as pages
use Rattle.hb_frag.specs.Leaves.{WellCut, leaves, leaves_of, Placed, siblings}
use Rattle.hb_ops.specs.Files.{page_at, if_live}
use Rattle.hb_ops.specs.Sound.{times_named}
use Rattle.hb_sound.specs.declared.page_facts.Fact.{Fact}
use Rattle.hb_sound.specs.declared.links.Links.{Links}
use Rattle.hb_sound.specs.declared.names.Times.TheVariants.{Never}
use Rattle.hb_sound.specs.declared.pages.AuditStop.{AuditStop}
use Rattle.hb_sound.specs.Facts.{FindsBelow, FindsSame, more, names_in}
use Rattle.hb_sound.specs.Stops.{OnBroken}
use Rattle.hb_sound.specs.Told.{item_at}
use Rattle.hb_sound.specs.Walks.{IsLeast}
use Rattle.hb_sound.specs.declared.page_facts.Fact.TheVariants.{Live, Free}
use Rattle.hb_sound.specs.declared.rests.Rest.{Rest}
use Rattle.hb_sound.specs.declared.rests.Rest.TheVariants.{Nothing, Lone, More}

-- where not more is left, each child leaf among these keeps rule 8 by the facts, and these are the sibling leaves
abbrev pub IsRestOf : List Fact → ℕ → List Placed → Rest → Type 0
IsRestOf facts level leaves Nothing = (siblings leaves ≡ []) × All (FindsBelow facts level) leaves
IsRestOf facts level leaves (Lone name area) = (siblings leaves ≡ (name, area) ∷ []) × All (FindsBelow facts level) leaves
IsRestOf facts level leaves More = Unit {0}

-- the fact is of a page of this kind, and what it leaves is what the page leaves
abbrev pub Knows : List Fact → Fact → Page → Type 0
Knows facts (Live seen) (pages.Live page) = (seen.level ≡ page.level) × IsRestOf facts page.level (leaves_of page.frag page.area) seen.rest
Knows facts (Free next) (pages.Free other) = Unit {0}
Knows facts _ _ = ⊥

-- so it is of each fact, and the page that is told under its number
abbrev pub KnowsTold : List Fact → List (Option Page) → Type 0
KnowsTold facts told = (id : ℕ) (fact : Fact) (page : Page) → item_at facts id ≡ Some fact → item_at told id ≡ Some (Some page) → Knows facts fact page

-- these pages are told
abbrev pub Tells : List (Option Page) → List Page → Type 0
Tells told list = (id : ℕ) (page : Page) → page_at list id ≡ Some page → item_at told id ≡ Some (Some page)

-- the cuts of a page in use cut
abbrev pub IsCut : Page → Type 0
IsCut (pages.Live page) = WellCut page
IsCut (pages.Free next) = Unit {0}

-- the first number up to n of which something holds, and then the least of all
abbrev pub IsFirstUpTo : (ℕ → Type 0) → ℕ → Option ℕ → Type 0
IsFirstUpTo p n None = (id : ℕ) → id ≤ n → ¬ (p id)
IsFirstUpTo p n (Some id) = IsLeast p id

-- the one before, where there is one
abbrev pub or_else : Option ℕ → ℕ → Option ℕ
or_else None id = Some id
or_else (Some first) id = Some first

-- the first bad one after one more, which is good or bad
abbrev pub IsNextBad : Type 0 → ℕ → Option ℕ → Option ℕ → Type 0
IsNextBad good id first after = (good × (after ≡ first)) ⊎ ((¬ good) × (after ≡ or_else first id))

-- each sibling leaf of the page, and each child leaf, names a page that is seen as the rule wants it
abbrev pub FindsSiblings : List Fact → LivePage → Type 0
FindsSiblings facts page = All (FindsSame facts page.level) (leaves_of page.frag page.area)

abbrev pub FindsChildren : List Fact → LivePage → Type 0
FindsChildren facts page = All (FindsBelow facts page.level) (leaves_of page.frag page.area)

-- the page of this number was added
pub record Adds (facts : List Fact) (id : ℕ) (page : LivePage) (old new : Links) : Type 0 where
  pub named : (other : ℕ) → item_at new.named.items other ≡ option_map (more (names_in other (leaves page.frag))) (item_at old.named.items other)
  pub sibling : IsNextBad (FindsSiblings facts page) id old.sibling new.sibling
  pub child : IsNextBad (FindsChildren facts page) id old.child new.child
  -- as many pages are counted
  pub same : vec_len new.named ≡ vec_len old.named

abbrev pub AddsPage : List Fact → ℕ → Page → Links → Links → Type 0
AddsPage facts id (pages.Live page) old new = Adds facts id page old new
AddsPage facts id (pages.Free next) old new = new ≡ old

-- What reading the page of this number for its links did, by the pages that are told.
pub record ReadsLinks (pages : Option (List (Option Page))) (facts : List Fact) (id : ℕ) (known : List (Option Page) → Page → Type 0) (result : Result (Unit {0}) AuditStop) (old new : Links) : Type 0 where
  -- the page that is told under it was added, where this is known of it
  pub adds : OnOk result (IfSome pages (λ told. (page : Page) → item_at told id ≡ Some (Some page) → known told page → AddsPage facts id page old new))
  -- it is broken only where a cut of that page doesn't cut
  pub never : IfErr result (OnBroken (λ _ _. IfSome pages (λ told. (page : Page) → item_at told id ≡ Some (Some page) → IsCut page → ⊥)))
  -- as many pages are counted
  pub same : vec_len new.named ≡ vec_len old.named

-- the page under the number has a leaf that names no page as its rule wants it
abbrev pub LosesSibling : List Fact → List Page → ℕ → Type 0
LosesSibling facts list id = (page : LivePage) × (if_live (page_at list id) ≡ Some page) × (¬ (FindsSiblings facts page))

abbrev pub LosesChild : List Fact → List Page → ℕ → Type 0
LosesChild facts list id = (page : LivePage) × (if_live (page_at list id) ≡ Some page) × (¬ (FindsChildren facts page))

-- what the leaves of the first n pages name
pub record AreLinks (facts : List Fact) (list : List Page) (n : ℕ) (links : Links) : Type 0 where
  pub named : (id : ℕ) → item_at links.named.items id ≡ option_map (λ fact. more (times_named id (take n list)) Never) (item_at facts id)
  pub sibling : IsFirstUpTo (LosesSibling facts list) n links.sibling
  pub child : IsFirstUpTo (LosesChild facts list) n links.child

-- pages that are told, of which each cut cuts: one for each fact, which knows what the page leaves
pub record AreRead (told : List (Option Page)) (facts : List Fact) (list : List Page) : Type 0 where
  pub told_are : Tells told list
  pub same : length list ≡ length facts
  pub known : KnowsTold facts told
  pub cut : (id : ℕ) (page : Page) → page_at list id ≡ Some page → IsCut page
