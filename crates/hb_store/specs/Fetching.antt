-- What a fetch reads and makes of a store, why it brings no page, and the number that an allocation takes.
use Rattle.std.specs.Prelude.{◌≡◌, ◌≢◌, ◌==◌, ◌||◌, ◌⊎◌, ℕ, ◌<◌, ◌≤◌, List, Option, IfSome, ◌+◌, Some, None, IsSome, if◌then◌else◌}
use Rattle.hb_disk.specs.Model.{DiskModel}
use Rattle.hb_frag.specs.declared.pages.Page.{Page}
use Rattle.hb_frag.specs.declared.pages.Page.TheVariants.{Live, Free}
use Rattle.hb_frag.specs.declared.pages.LivePage.{LivePage}
use Rattle.hb_frag.specs.Grammar.{SpellsPage}
use Rattle.hb_layout.specs.declared.meta.Meta.{Meta}
use Rattle.hb_ops.specs.Sound.{BreaksFirst}
use Rattle.hb_store.specs.Opening.{place_bytes}
use Rattle.hb_store.specs.declared.stops.Why.TheVariants.{Rule}
use Rattle.hb_store.specs.declared.stops.FetchStop.{FetchStop}
use Rattle.hb_store.specs.declared.stops.FetchStop.TheVariants as fetches
use Rattle.hb_store.specs.States.{StoreState, in_memory}
use Rattle.hb_disk.specs.Calls.{ReadsOnly}
use Rattle.hb_ops.specs.Files.{FileState}
use Rattle.hb_store.specs.Keeps.{StoreKeeps}
use Rattle.hb_pool.specs.Frames.{Use}
use Rattle.hb_pool.specs.Pools.{places}
use Rattle.hb_store.specs.Calls.{Fetched, StaysHere, use_fetched}
use Rattle.hb_store.specs.declared.stops.FetchStop.TheVariants.{Damaged}

-- the number is of no page of the file
abbrev pub IsNoPage : Meta → ℕ → Type 0
IsNoPage meta id = (id ≡ 0) ⊎ (meta.high < id)

-- What the place of a page holds where the page breaks this rule: no page for 0, else a page whose first broken rule it is.
abbrev pub IsDamagedBy : Meta → List ℕ → ℕ → Type 0
IsDamagedBy meta bytes rule =
    ((rule ≡ 0) × ((page : Page) → SpellsPage bytes page → ⊥))
    ⊎ ((rule ≢ 0) × (page : LivePage) × SpellsPage bytes (Live page) × BreaksFirst rule page meta)

-- A rule that a page may break by itself: 0 where its bytes are none, else one of those that speak of a page alone.
abbrev pub IsRuleOfPage : ℕ → Type 0
IsRuleOfPage rule = (rule ≡ 0) ⊎ ((3 ≤ rule) × (rule ≤ 6)) ⊎ (rule ≡ 10)

-- What a call that may read a page did to a disk and its store, where `failed` says that a fault of the disk ended it.
pub record LooksUp (failed : Type 0) (d e : DiskModel) (old new : StoreState) : Type 0 where
  -- the disk was only read, and its count of faults rose where one ended the call
  pub only : ReadsOnly failed d e
  -- what the store kept of the disk it keeps
  pub keeps : (durable : FileState) (later : List FileState) → StoreKeeps d old durable later → StoreKeeps e new durable later

-- Which rule a page breaks that isn't fetched: 1 for a number that is no page's, and then nothing was read; else one that a page
-- breaks by itself, and where the disk tells, what it read as breaks it.
abbrev pub Breaks : Meta → DiskModel → ℕ → ℕ → Type 0
Breaks meta d id rule = ((rule ≡ 1) × IsNoPage meta id) ⊎ (IsRuleOfPage rule × (¬ (IsNoPage meta id)) × IfSome d.told (λ b. IsDamagedBy meta (place_bytes meta id b) rule))

-- Why a page of this number was not fetched.
abbrev pub FetchesNot : Meta → DiskModel → ℕ → FetchStop → Type 0
FetchesNot meta d id (fetches.Damaged page (Rule rule)) = (page ≡ id) × Breaks meta d id rule
FetchesNot meta d id (fetches.Damaged page other) = ⊥
FetchesNot meta d id other = ¬ (IsNoPage meta id)

-- The page breaks a rule that speaks of it alone, and the stop names it.
abbrev pub BreaksHere : Meta → ℕ → Page → FetchStop → Type 0
BreaksHere meta id page (fetches.Damaged at (Rule rule)) = (at ≡ id) × (rule ≢ 0) × (rule ≢ 1) × (live : LivePage) × (page ≡ Live live) × BreaksFirst rule live meta
BreaksHere meta id page other = ⊥

-- Why the place of a page gave none: it holds no good page, and the stop says which rule is broken, by its bytes where they are
-- known. A fault and want of a place say nothing of it.
abbrev pub HoldsNot : Meta → Option (List ℕ) → ℕ → FetchStop → Type 0
HoldsNot meta bytes id (fetches.Damaged at (Rule rule)) = (at ≡ id) × IsRuleOfPage rule × IfSome bytes (λ b. IsDamagedBy meta b rule)
HoldsNot meta bytes id (fetches.Damaged at other) = ⊥
HoldsNot meta bytes id other = Unit {0}

-- a page was fetched, or nothing changed
abbrev pub MayFetch : ℕ → StoreState → StoreState → Type 0
MayFetch id old new = (new ≡ old) ⊎ Fetched id old new

-- the same, said of the order of use
abbrev pub MayUse : ℕ → List Use → List Use → Type 0
MayUse id uses after = (after ≡ uses) ⊎ (after ≡ use_fetched id uses)

-- What a call does that fetches this page at most: a page that is dirty or pinned is there as it was.
pub record MayBring (id : ℕ) (old new : StoreState) (uses after : List Use) : Type 0 where
  pub fetched : MayFetch id old new
  pub used : MayUse id uses after
  pub stays : (q : ℕ) → StaysHere uses q → in_memory new q ≡ in_memory old q

-- the page isn't in memory, and there is no place for it
abbrev pub IsCrowdedOut : ℕ → StoreState → List Use → Type 0
IsCrowdedOut id st uses = (¬ (IsNoPage st.meta id)) × (in_memory st id ≡ None) × (places uses ≡ 0)

-- the order of use once the number for a page that is made was asked for: the head of the free chain is needed, where there is one
abbrev pub use_numbered : Meta → List Use → List Use
use_numbered meta uses = if (meta.live == meta.pages) || (meta.free == 0) then uses else use_fetched meta.free uses

-- The number that is taken, and the free head after it: the first of the free chain and what it names, or where the
-- chain has none the number behind the highest page, and none.
pub record IsNext (st : StoreState) (fresh free_after : ℕ) : Type 0 where
  pub from_chain : st.meta.free ≢ 0 → (fresh ≡ st.meta.free) × (in_memory st fresh ≡ Some (Free free_after))
  pub from_behind : st.meta.free ≡ 0 → (fresh ≡ st.meta.high + 1) × (st.meta.high < st.meta.pages) × (free_after ≡ 0)

-- No page has to be read for a number: every page is in use, or the free chain has none, or its head is in memory.
abbrev pub NeedsNoRead : StoreState → Type 0
NeedsNoRead st = (st.meta.live ≡ st.meta.pages) ⊎ ((st.meta.free ≡ 0) ⊎ IsSome (in_memory st st.meta.free))

-- the stop names a page that is damaged
abbrev pub IsDamage : FetchStop → Type 0
IsDamage (Damaged page why) = Unit {0}
IsDamage other = ⊥

-- The head of the free chain is none that is free: it isn't fetched, and so isn't in memory, or it is in use.
abbrev pub IsNoHead : Meta → DiskModel → StoreState → ℕ → FetchStop → Type 0
IsNoHead meta d new head stop = (FetchesNot meta d head stop × (in_memory new head ≡ None)) ⊎ ((page : LivePage) × (in_memory new head ≡ Some (Live page)) × (stop ≡ Damaged head (Rule 2)))
