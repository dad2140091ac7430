-- What breaks each rule, the first rule that a file breaks, and the page that the audit names for it. Page 0 stands for the file.
use Rattle.std.specs.Prelude.{◌≡◌, ◌⊎◌, ℕ, ◌<◌, ◌≤◌, List, length, Option, Some, ◌≢◌, Contains}
use Rattle.hb_frag.specs.declared.pages.LivePage.{LivePage}
use Rattle.hb_frag.specs.declared.pages.Page.{Page}
use Rattle.hb_layout.specs.declared.meta.Meta.{Meta}
use Rattle.hb_ops.specs.Files.{FileState, file_records, live_page}
use Rattle.hb_ops.specs.Sound.{BreaksFirst, FitsFile, IsRooted, IsCounted, SiblingsMatch, ChildrenMatch, IsCovered, IsSound, times_named, HasSame, HasBelow}
use Rattle.hb_sound.specs.Told.{IsHole, IsWholeFile, file_of}
use Rattle.hb_sound.specs.Walks.{IsLeast, IsChainWalk, IsLeftOut, next_free}
use Rattle.hb_space.specs.Boxes.{Area, whole_area}
use Rattle.hb_frag.specs.declared.leaves.Leaf.TheVariants.{Child}
use Rattle.hb_frag.specs.Leaves.{leaves_of, siblings_of}

-- S3 to S6 and S10: the page breaks this rule by itself, and none before it
abbrev pub BreaksRule : FileState → ℕ → ℕ → Type 0
BreaksRule s rule id = (page : LivePage) × (live_page s id ≡ Some page) × BreaksFirst rule page s.meta

-- S7: a sibling leaf of the page names none of its level with the leaf's box
abbrev pub MissesSibling : FileState → ℕ → Type 0
MissesSibling s id = (page : LivePage) × (live_page s id ≡ Some page) × (name : ℕ) × (area : Area)
    × Contains (siblings_of page) (name, area) × (¬ (HasSame s page.level name area))

-- S8: a child leaf of the page names none one level down with the leaf's box within its own
abbrev pub MissesChild : FileState → ℕ → Type 0
MissesChild s id = (page : LivePage) × (live_page s id ≡ Some page) × (name : ℕ) × (area : Area)
    × Contains (leaves_of page.frag page.area) (record { leaf = Child name; area = area }) × (¬ (HasBelow s page.level name area))

-- S9: a level below the height has no page of the whole space
abbrev pub LacksFirst : FileState → Type 0
LacksFirst s = (level : ℕ) × (level < s.meta.height)
    × ((id : ℕ) (page : LivePage) → live_page s id ≡ Some page → page.level ≡ level → page.area ≢ whole_area s.meta.k)

-- Of the whole space beside a lesser page of its level, or of less and not named by exactly one sibling leaf. A page of
-- the whole space that a sibling leaf names needs no case: by S7 the leaf has the whole space and stands in a page of that
-- level, which then has the whole space too. It is another page, for by S4 and S5 a leaf has less than its own page.
abbrev pub IsLoose : FileState → ℕ → Type 0
IsLoose s id = (page : LivePage) × (live_page s id ≡ Some page)
    × (((page.area ≡ whole_area s.meta.k) × (other : ℕ) × (other < id) × HasSame s page.level other page.area)
    ⊎ ((page.area ≢ whole_area s.meta.k) × (times_named id s.pages ≢ 1)))

-- every page in use keeps the rules 3 to 6
abbrev pub KeepsLocally : FileState → Type 0
KeepsLocally s = (id : ℕ) (page : LivePage) → live_page s id ≡ Some page → FitsFile s.meta page ⊎ BreaksFirst 10 page s.meta

-- S2: the least free page that the chain leaves out, else the number at which the chain ends
abbrev pub NamesFree : FileState → ℕ → Type 0
NamesFree s id = (chain : List ℕ) × (end : ℕ) × IsChainWalk (next_free s) s.meta.free chain end
    × (IsLeast (IsLeftOut (next_free s) chain) id ⊎ ((id ≡ end) × ((other : ℕ) → ¬ (IsLeftOut (next_free s) chain other))))

-- S3 to S6: the least page for the least rule
abbrev pub NamesLocal : FileState → ℕ → ℕ → Type 0
NamesLocal s id rule = (rule ≤ 6) × IsLeast (BreaksRule s rule) id × ((lesser other : ℕ) → lesser < rule → ¬ (BreaksRule s lesser other))

-- S9: 0 where a level has no page of the whole space, else the least page that is loose
abbrev pub NamesLoose : FileState → ℕ → Type 0
NamesLoose s id = ((id ≡ 0) × LacksFirst s) ⊎ ((¬ (LacksFirst s)) × IsLeast (IsLoose s) id)

-- the rules up to 6, and up to 8
abbrev pub KeepsSix : FileState → Type 0
KeepsSix s = IsRooted s × IsCounted s × KeepsLocally s

abbrev pub KeepsEight : FileState → Type 0
KeepsEight s = KeepsSix s × SiblingsMatch s × ChildrenMatch s

-- The rules from 1 on, in their order. Each is tested where those before it are kept.
abbrev pub NamesIn : FileState → ℕ → ℕ → Type 0
NamesIn s id rule =
    ((rule ≡ 1) × (id ≡ 0) × (¬ (IsRooted s)))
    ⊎ ((rule ≡ 2) × IsRooted s × (¬ (IsCounted s)) × NamesFree s id)
    ⊎ (IsRooted s × IsCounted s × NamesLocal s id rule)
    ⊎ ((rule ≡ 7) × KeepsSix s × IsLeast (MissesSibling s) id)
    ⊎ ((rule ≡ 8) × KeepsSix s × SiblingsMatch s × IsLeast (MissesChild s) id)
    ⊎ ((rule ≡ 9) × KeepsEight s × (¬ (IsCovered s)) × NamesLoose s id)
    ⊎ ((rule ≡ 10) × KeepsEight s × IsCovered s × IsLeast (BreaksRule s 10) id)

-- the same of what is told of a file, with rule 0 before the others
abbrev pub Names : Meta → List (Option Page) → ℕ → ℕ → Type 0
Names meta told id rule =
    ((rule ≡ 0) × IsLeast (IsHole meta told) id)
    ⊎ (IsWholeFile meta told × NamesIn (file_of meta told) id rule)

-- what is told is a sound file with this many records
abbrev pub IsSoundWith : Meta → List (Option Page) → ℕ → Type 0
IsSoundWith meta told records = IsWholeFile meta told × IsSound (file_of meta told) × (records ≡ length (file_records (file_of meta told)))

-- a sound file breaks no rule
abbrev pub SoundBreaksNone : Type 0
SoundBreaksNone = (meta : Meta) (told : List (Option Page)) (id rule : ℕ) → Names meta told id rule → IsWholeFile meta told → IsSound (file_of meta told) → ⊥

-- of the rules that a file breaks one is named first, for one page
abbrev pub OneIsNamed : Type 0
OneIsNamed = (s : FileState) (page other rule another : ℕ) → NamesIn s page rule → NamesIn s other another → (page ≡ other) × (rule ≡ another)
