-- The few facts that the audit keeps of each page, and what they say together.
use Rattle.std.specs.Prelude.{◌≡◌, ◌⊎◌, ℕ, zero, suc, ◌+◌, ◌≤◌, ◌==◌, if◌then◌else◌, List, [], ◌∷◌, length, option_map, Option, Some, None}
use Rattle.hb_space.specs.Boxes.{Area, Within}
use Rattle.hb_frag.specs.declared.leaves.Leaf.{Leaf}
use Rattle.hb_frag.specs.declared.leaves.Leaf.TheVariants.{Records, Child, Sibling}
use Rattle.hb_frag.specs.declared.pages.LivePage.{LivePage}
use Rattle.hb_frag.specs.declared.pages.Page.{Page}
use Rattle.hb_frag.specs.declared.pages.Page.TheVariants as pages
use Rattle.hb_frag.specs.Leaves.{Placed}
use Rattle.hb_layout.specs.Limits.{IsLayout}
use Rattle.hb_layout.specs.declared.meta.Meta.{Meta}
use Rattle.hb_ops.specs.Files.{page_records}
use Rattle.hb_ops.specs.Sound.{BreaksFirst, FitsFile}
use Rattle.hb_sound.specs.declared.page_facts.Seen.{Seen}
use Rattle.hb_sound.specs.declared.page_facts.Fact.{Fact}
use Rattle.hb_sound.specs.declared.page_facts.Fact.TheVariants.{Live, Free}
use Rattle.hb_sound.specs.declared.names.Times.{Times}
use Rattle.hb_sound.specs.declared.names.Times.TheVariants.{Never, Once, Often}
use Rattle.hb_sound.specs.Told.{item_at}

-- the rule that a page breaks by itself, 0 where it breaks none
abbrev pub IsOwnRule : ℕ → LivePage → Meta → Type 0
IsOwnRule rule page meta = ((rule ≡ 0) × FitsFile meta page) ⊎ BreaksFirst rule page meta

-- what was seen of a page in use
pub record IsSeenOf (meta : Meta) (seen : Seen) (page : LivePage) : Type 0 where
  pub level : seen.level ≡ page.level
  pub area : seen.area ≡ page.area
  pub rule : IsOwnRule seen.rule page meta
  pub records : seen.records ≡ length (page_records (pages.Live page))

abbrev pub IsFactOf : Meta → Fact → Page → Type 0
IsFactOf meta (Live seen) (pages.Live page) = IsSeenOf meta seen page
IsFactOf meta (Free next) (pages.Free other) = next ≡ other
IsFactOf meta _ _ = ⊥

-- a fact of each page, in their order
abbrev pub AreFactsOf : Meta → List Fact → List Page → Type 0
AreFactsOf meta [] [] = Unit {0}
AreFactsOf meta (fact ∷ facts) (page ∷ others) = IsFactOf meta fact page × AreFactsOf meta facts others
AreFactsOf meta _ _ = ⊥

-- what was seen under a number
abbrev pub if_seen : Option Fact → Option Seen
if_seen (Some (Live seen)) = Some seen
if_seen other = None

abbrev pub seen_at : List Fact → ℕ → Option Seen
seen_at facts id = if_seen (item_at facts id)

-- what follows in the free chain
abbrev pub if_next : Option Fact → Option ℕ
if_next (Some (Free next)) = Some next
if_next other = None

abbrev pub next_at : List Fact → ℕ → Option ℕ
next_at facts id = if_next (item_at facts id)

-- a page of this level and box is seen under the number
abbrev pub SeesSame : List Fact → ℕ → ℕ → Area → Type 0
SeesSame facts level name area = (seen : Seen) × (seen_at facts name ≡ Some seen) × (seen.level ≡ level) × (seen.area ≡ area)

-- a page one level down is, whose box has this one within it
abbrev pub SeesBelow : List Fact → ℕ → ℕ → Area → Type 0
SeesBelow facts level name area = (seen : Seen) × (seen_at facts name ≡ Some seen) × (seen.level + 1 ≡ level)
    × (length area.lo ≡ length seen.area.lo) × Within area seen.area

-- what holds of the page that a leaf names, where it is a sibling leaf, and where it is a child leaf
abbrev pub IfSibling : (ℕ → Type 0) → Leaf → Type 0
IfSibling p (Sibling name) = p name
IfSibling p other = Unit {0}

abbrev pub IfChild : (ℕ → Type 0) → Leaf → Type 0
IfChild p (Child name) = p name
IfChild p other = Unit {0}

-- a leaf, where it is a sibling leaf, names a page of this level and its box; where it is a child leaf, one below
pub record FindsSame (facts : List Fact) (level : ℕ) (placed : Placed) : Type 0 where
  pub same : IfSibling (λ name. SeesSame facts level name placed.area) placed.leaf

pub record FindsBelow (facts : List Fact) (level : ℕ) (placed : Placed) : Type 0 where
  pub below : IfChild (λ name. SeesBelow facts level name placed.area) placed.leaf

-- how often sibling leaves among these name the page
abbrev pub names_in : ℕ → List Leaf → ℕ
names_in id [] = 0
names_in id (Records records ∷ rest) = names_in id rest
names_in id (Child name ∷ rest) = names_in id rest
names_in id (Sibling name ∷ rest) = (if name == id then 1 else 0) + names_in id rest

-- a number as a count that goes up to two
abbrev pub once_more : Times → Times
once_more Never = Once
once_more Once = Often
once_more Often = Often

abbrev pub more : ℕ → Times → Times
more zero times = times
more (suc n) times = once_more (more n times)

-- the counts before, and after each page was met so often
pub record IsCountedOn (met : ℕ → ℕ) (old new : List Times) : Type 0 where
  pub same : length new ≡ length old
  pub counted : (id : ℕ) → item_at new id ≡ option_map (more (met id)) (item_at old id)

-- a legal layout, and a fact of each page up to the highest page
pub record HasFacts (meta : Meta) (facts : List Fact) : Type 0 where
  pub layout : IsLayout meta
  pub count : length facts ≡ meta.high
  pub within : meta.high ≤ meta.pages
