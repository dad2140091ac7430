-- What a step brings into memory, and why it doesn't.
use Rattle.std.specs.Prelude.{◌≡◌, ◌≢◌, ◌⊎◌, ℕ, ◌≤◌, IsTrue, Option, Some, None, IsSome, IfSome}
use Rattle.hb_frag.specs.declared.pages.LivePage.{LivePage}
use Rattle.hb_frag.specs.declared.pages.Page.{Page}
use Rattle.hb_frag.specs.declared.pages.Page.TheVariants.{Live}
use Rattle.hb_activity.specs.declared.wanting.Wanted.{Wanted}
use Rattle.hb_latch.specs.declared.modes.Mode.{Mode}
use Rattle.hb_store.specs.declared.stops.Why.{Why}
use Rattle.hb_store.specs.declared.stops.Why.TheVariants.{Rule, Level, Extent}
use Rattle.hb_steps.specs.AskedBoxes.{IsNotAsked}
use Rattle.hb_steps.specs.Asking.{AskedBox}
use Rattle.hb_steps.specs.Machines.{Files, Machine, current_file, modes}
use Rattle.hb_ops.specs.Files.{page_of}
use Rattle.hb_store.specs.Calls.{KeepsAllButPages}
use Rattle.hb_store.specs.States.{IsGoodPage, StoreState, in_memory, is_dirty}
use Rattle.hb_store.specs.Fetching.{IsNoPage, IsRuleOfPage}

-- The pages that stay in memory whatever comes: those that somebody holds, and those that are to be written to their places still.
abbrev pub MustStay : Machine → ℕ → Type 0
MustStay m id = ((actor : ℕ) × (mode : Mode) × (modes m actor id ≡ Some mode)) ⊎ IsTrue (is_dirty m.store id)

-- Pages came into memory, of these numbers at most, and pages left it that need not stay: else nothing changed. What came is of
-- the file and keeps the rules that speak of a page alone; where the disk tells, it is what the file has there. Where it doesn't, a
-- page may have left and come again as another one.
pub record Brings (m : Machine) (may : ℕ → Type 0) (new : StoreState) : Type 0 where
  pub rest : KeepsAllButPages m.store new
  pub stays : (id : ℕ) → MustStay m id → IsSome (in_memory m.store id) → in_memory new id ≡ in_memory m.store id
  pub others : (id : ℕ) → IsSome (in_memory m.store id) → (in_memory new id ≡ in_memory m.store id) ⊎ (in_memory new id ≡ None) ⊎ ((m.files ≡ None) × may id × (¬ (MustStay m id)))
  pub only : (id : ℕ) → in_memory m.store id ≡ None → IsSome (in_memory new id) → may id
  pub good : (id : ℕ) (page : Page) → in_memory new id ≡ Some page → (in_memory m.store id ≡ Some page) ⊎ ((1 ≤ id) × (id ≤ m.store.meta.high) × IsGoodPage m.store.meta page)
  pub told : (id : ℕ) (page : Page) → in_memory m.store id ≡ None → in_memory new id ≡ Some page → IfSome m.files (λ files. page_of (current_file files) id ≡ Some page)

-- What a step may need: the page that it wants, and, where it takes a number for a page that it makes, the first page of
-- the free chain.
abbrev pub IsWantedPage : Option Wanted → ℕ → Type 0
IsWantedPage None id = ⊥
IsWantedPage (Some wanted) id = id ≡ wanted.page

abbrev pub IsFreeHead : StoreState → ℕ → Type 0
IsFreeHead st id = (id ≡ st.meta.free) × (id ≢ 0)

-- The wanted page is damaged: no page of the file has its number; or what the disk read as is no page or breaks a rule by
-- itself, which only a disk does that doesn't tell, and the page doesn't come; or it isn't the page that was asked for.
abbrev pub IsBadRead : Option Files → StoreState → ℕ → Why → Type 0
IsBadRead files st id (Rule rule) = (files ≡ None) × (in_memory st id ≡ None) × IsRuleOfPage rule
IsBadRead files st id (Level level found) = ⊥
IsBadRead files st id (Extent area found) = ⊥

abbrev pub IsDamaged : Option Files → StoreState → Wanted → AskedBox → Why → Type 0
IsDamaged files st wanted asked why =
    (IsNoPage st.meta wanted.page × (why ≡ Rule 1))
    ⊎ ((¬ (IsNoPage st.meta wanted.page)) × IsBadRead files st wanted.page why)
    ⊎ ((¬ (IsNoPage st.meta wanted.page)) × (page : Page) × (in_memory st wanted.page ≡ Some page) × IsNotAsked wanted asked page why)

-- The first page of the free chain is damaged: no page of the file has its number, or it was read so, or it is in use. So
-- is page 0, where the chain has none, pages are left, and no number is.
abbrev pub IsBadHead : Option Files → StoreState → ℕ → Why → Type 0
IsBadHead files st id why =
    ((st.meta.free ≢ 0) × (id ≡ st.meta.free) × IsNoPage st.meta id × (why ≡ Rule 1))
    ⊎ ((st.meta.free ≢ 0) × (id ≡ st.meta.free) × (¬ (IsNoPage st.meta id)) × IsBadRead files st id why)
    ⊎ ((st.meta.free ≢ 0) × (id ≡ st.meta.free) × (page : LivePage) × (in_memory st id ≡ Some (Live page)) × (why ≡ Rule 2))
    ⊎ ((st.meta.free ≡ 0) × (st.meta.high ≡ st.meta.pages) × (id ≡ 0) × (why ≡ Rule 2))
