-- When a file is sound, and the first rule that a page breaks by itself. The number of a rule is the one that a refusal names.
use Rattle.std.specs.Prelude.{◌≡◌, ◌≢◌, ℕ, ◌+◌, ◌<◌, ◌≤◌, ◌==◌, if◌then◌else◌, List, [], ◌∷◌, length, Contains, Some, ◌⊎◌}
use Rattle.hb_space.specs.Boxes.{Area, Within, whole_area}
use Rattle.hb_frag.specs.declared.leaves.Leaf.TheVariants.{Child}
use Rattle.hb_frag.specs.declared.pages.LivePage.{LivePage}
use Rattle.hb_frag.specs.declared.pages.Page.{Page}
use Rattle.hb_frag.specs.declared.pages.Page.TheVariants.{Live, Free}
use Rattle.hb_frag.specs.Leaves.{leaves_of, siblings_of, WellCut}
use Rattle.hb_frag.specs.Rules.{IsWellMade, Fits, IsFilledRight, AreInOrder, IsNormal}
use Rattle.hb_layout.specs.declared.meta.Meta.{Meta}
use Rattle.hb_ops.specs.Files.{FileState, page_of, live_page}

-- the page is well made for the file
abbrev pub FitsFile : Meta → LivePage → Type 0
FitsFile meta page = IsWellMade page meta.k meta.height meta.dcap meta.icap

-- S1: the numbers are in their places, and the root is in use at the top level and has the whole space
pub record IsRooted (s : FileState) : Type 0 where
  pub numbered : length s.pages ≡ s.meta.high
  pub some : 1 ≤ s.meta.high
  pub high : s.meta.high ≤ s.meta.pages
  pub root : s.meta.root ≤ s.meta.high
  pub free : s.meta.free ≤ s.meta.high
  pub live : s.meta.live ≤ s.meta.high
  pub top : (page : LivePage) × (live_page s s.meta.root ≡ Some page) × (page.level + 1 ≡ s.meta.height) × (page.area ≡ whole_area s.meta.k)

-- the numbers of a chain of free pages that begins with the head and ends at 0
abbrev pub IsChain : FileState → ℕ → List ℕ → Type 0
IsChain s head [] = head ≡ 0
IsChain s head (id ∷ rest) = (head ≡ id) × (head ≢ 0) × (next : ℕ) × (page_of s id ≡ Some (Free next)) × IsChain s next rest

-- how many pages of a list are in use
abbrev pub count_live : List Page → ℕ
count_live [] = 0
count_live (Live page ∷ rest) = count_live rest + 1
count_live (Free next ∷ rest) = count_live rest

-- S2: the free chain ends at 0 and has every free page, and the live pages are counted
pub record IsCounted (s : FileState) : Type 0 where
  pub chain : List ℕ
  pub chained : IsChain s s.meta.free chain
  pub all : (id next : ℕ) → page_of s id ≡ Some (Free next) → Contains chain id
  pub live : s.meta.live ≡ count_live s.pages

-- S3 to S6 and S10: each page in use is well made
abbrev pub AreWellMade : FileState → Type 0
AreWellMade s = (id : ℕ) (page : LivePage) → live_page s id ≡ Some page → FitsFile s.meta page

-- a page in use of this level, with this box
abbrev pub HasSame : FileState → ℕ → ℕ → Area → Type 0
HasSame s level name area = (named : LivePage) × (live_page s name ≡ Some named) × (named.level ≡ level) × (named.area ≡ area)

-- S7: a sibling leaf names a page in use of the same level, with exactly the leaf's box
abbrev pub SiblingsMatch : FileState → Type 0
SiblingsMatch s = (id : ℕ) (page : LivePage) (name : ℕ) (area : Area) → live_page s id ≡ Some page → Contains (siblings_of page) (name, area) → HasSame s page.level name area

-- a page in use one level down from this one, whose box has this one within it
abbrev pub HasBelow : FileState → ℕ → ℕ → Area → Type 0
HasBelow s level name area = (named : LivePage) × (live_page s name ≡ Some named) × (named.level + 1 ≡ level) × Within area named.area

-- S8: a child leaf names a page in use one level down, whose box has the leaf's box within it
abbrev pub ChildrenMatch : FileState → Type 0
ChildrenMatch s = (id : ℕ) (page : LivePage) (name : ℕ) (area : Area) → live_page s id ≡ Some page → Contains (leaves_of page.frag page.area) (record { leaf = Child name; area = area }) →
    HasBelow s page.level name area

-- how often sibling leaves of a list of pages name a page
abbrev pub count_name : ℕ → List (ℕ × Area) → ℕ
count_name id [] = 0
count_name id (s ∷ rest) = (if s.0 == id then 1 else 0) + count_name id rest

abbrev pub times_named : ℕ → List Page → ℕ
times_named id [] = 0
times_named id (Live page ∷ rest) = count_name id (siblings_of page) + times_named id rest
times_named id (Free next ∷ rest) = times_named id rest

-- S9: each level has exactly one page of the whole space, which no sibling leaf names; exactly one names every other
pub record IsCovered (s : FileState) : Type 0 where
  pub first : (level : ℕ) → level < s.meta.height → (id : ℕ) × (page : LivePage) × (live_page s id ≡ Some page) × (page.level ≡ level) × (page.area ≡ whole_area s.meta.k)
  pub alone : (id other : ℕ) (page same : LivePage) → live_page s id ≡ Some page → live_page s other ≡ Some same → page.level ≡ same.level →
      page.area ≡ whole_area s.meta.k → same.area ≡ whole_area s.meta.k → id ≡ other
  pub not_named : (id : ℕ) (page : LivePage) → live_page s id ≡ Some page → page.area ≡ whole_area s.meta.k → times_named id s.pages ≡ 0
  pub named_once : (id : ℕ) (page : LivePage) → live_page s id ≡ Some page → page.area ≢ whole_area s.meta.k → times_named id s.pages ≡ 1

-- a sound file keeps all rules
pub record IsSound (s : FileState) : Type 0 where
  pub rooted : IsRooted s
  pub counted : IsCounted s
  pub well_made : AreWellMade s
  pub siblings : SiblingsMatch s
  pub children : ChildrenMatch s
  pub covered : IsCovered s

-- it keeps every earlier rule and breaks the one of this number: 3, 4, 5, 6 or 10
abbrev pub BreaksFirst : ℕ → LivePage → Meta → Type 0
BreaksFirst rule page meta =
    let fits = Fits page meta.k meta.height in
    let filled = IsFilledRight page meta.dcap meta.icap in
    ((rule ≡ 3) × (¬ fits))
    ⊎ ((rule ≡ 4) × fits × (¬ (WellCut page)))
    ⊎ ((rule ≡ 5) × fits × WellCut page × (¬ filled))
    ⊎ ((rule ≡ 6) × fits × WellCut page × filled × (¬ (AreInOrder page)))
    ⊎ ((rule ≡ 10) × fits × WellCut page × filled × AreInOrder page × (¬ (IsNormal page.frag)))
