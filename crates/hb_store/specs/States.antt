-- What a store is seen as: what it has in memory, whatever the disk holds.
use Rattle.std.specs.Prelude.{◌≡◌, ℕ, ◌<◌, ◌≤◌, ◌^◌, Bool, false, IsTrue, [], Option, Some, None}
use Rattle.std.specs.Ordering.{nat_cmp}
use Rattle.std.specs.FinMap as map
use Rattle.std.specs.FinSet as set
use Rattle.hb_wal.specs.Log.{LogState}
use Rattle.hb_layout.specs.Limits.{IsLayout}
use Rattle.hb_layout.specs.Offsets.{log_start, file_size}
use Rattle.hb_layout.specs.declared.meta.Meta.{Meta}
use Rattle.hb_frag.specs.declared.pages.Page.{Page}
use Rattle.hb_frag.specs.declared.pages.Page.TheVariants.{Live, Free}
use Rattle.hb_frag.specs.Grammar.{HasSpelling}
use Rattle.hb_ops.specs.Sound.{FitsFile}

-- A store, but for its disk.
pub record StoreState : Type 0 where
  -- the turn of the newest superblock
  pub turn : ℕ
  -- what the file says of itself
  pub meta : Meta
  -- the log with its room, and the groups that wait
  pub log : LogState
  -- the pages in memory, by their numbers
  pub pages : map.FinMap nat_cmp Page
  -- the numbers of the pages of which this turn's log has a page image, or which it made, in memory or not
  pub in_log : set.FinSet nat_cmp
  -- the numbers of the pages in memory that are to be written to their places still
  pub dirty : set.FinSet nat_cmp
  -- whether a write, zero or sync failed
  pub stopped : Bool

-- the page of a number, where it is in memory
abbrev pub in_memory : StoreState → ℕ → Option Page
in_memory st id = map.get st.pages id

-- whether this turn's log has a page image of the page of a number, or made it
abbrev pub is_in_log : StoreState → ℕ → Bool
is_in_log st id = set.contains st.in_log id

-- whether the page of a number is to be written to its place still
abbrev pub is_dirty : StoreState → ℕ → Bool
is_dirty st id = set.contains st.dirty id

-- what a store may say of its turn and its file, over any disk
pub record IsStanding (turn : ℕ) (meta : Meta) : Type 0 where
  pub turn_fits : turn ≤ 3
  pub layout : IsLayout meta
  pub some : 1 ≤ meta.high
  pub high : meta.high ≤ meta.pages
  pub live : meta.live ≤ meta.pages
  pub root_fits : meta.root < 2 ^ 32
  pub free_fits : meta.free < 2 ^ 32

-- a page in memory has a spelling, and where it is in use keeps the rules that speak of it alone
abbrev pub IsGoodPage : Meta → Page → Type 0
IsGoodPage meta (Live page) = HasSpelling (Live page) × FitsFile meta page
IsGoodPage meta (Free next) = HasSpelling (Free next)

-- pages are of the file, and good
abbrev pub AreGood : Meta → (ℕ → Option Page) → Type 0
AreGood meta page_at = (id : ℕ) (page : Page) → page_at id ≡ Some page → (1 ≤ id) × (id ≤ meta.high) × IsGoodPage meta page

-- What every store has in memory: no disk is spoken of.
pub record IsMemory (st : StoreState) : Type 0 where
  -- turn and file are within their limits
  pub stands : IsStanding st.turn st.meta
  -- the log lies where that of this turn does
  pub area : st.log.area ≡ log_start st.turn st.meta
  -- it is as long as the file says
  pub len : st.log.len ≡ st.meta.log
  -- pages in memory are of the file, and good
  pub good : AreGood st.meta (in_memory st)
  -- only pages of the file are in the log
  pub in_file : (id : ℕ) → IsTrue (is_in_log st id) → (1 ≤ id) × (id ≤ st.meta.high)
  -- a page that is to be written to its place is in the log
  pub logged : (id : ℕ) → IsTrue (is_dirty st id) → IsTrue (is_in_log st id)

-- What every store is, over every disk.
pub record IsStore (size : ℕ) (st : StoreState) : Type 0 where
  -- what holds over any disk
  pub memory : IsMemory st
  -- the file fits the disk
  pub room : file_size st.meta ≤ size

-- a store without pages in memory and groups
abbrev pub new_state : ℕ → Meta → StoreState
new_state turn meta = record {
  turn = turn;
  meta = meta;
  log = record { area = log_start turn meta; len = meta.log; written = 0; groups = [] };
  pages = map.empty;
  in_log = set.empty;
  dirty = set.empty;
  stopped = false;
}

pub record IsNew (turn : ℕ) (meta : Meta) (st : StoreState) : Type 0 where
  pub turn_is : st.turn ≡ turn
  pub meta_is : st.meta ≡ meta
  pub log_is : st.log ≡ record { area = log_start turn meta; len = meta.log; written = 0; groups = [] }
  pub no_page : (id : ℕ) → in_memory st id ≡ None
  pub none_in_log : (id : ℕ) → is_in_log st id ≡ false
  pub none_dirty : (id : ℕ) → is_dirty st id ≡ false
  pub running : st.stopped ≡ false

-- The parts of a file that no operation changes.
pub record IsSameLayout (old new : Meta) : Type 0 where
  pub k : new.k ≡ old.k
  pub pages : new.pages ≡ old.pages
  pub log : new.log ≡ old.log
  pub dcap : new.dcap ≡ old.dcap
  pub icap : new.icap ≡ old.icap
