-- What the reading of a log gives, and why it gives nothing.
use Rattle.std.specs.Prelude.{◌≡◌, ℕ, ◌≤◌, List, Some, ◌⊎◌, length}
use Rattle.std.specs.Ordering.{nat_cmp}
use Rattle.std.specs.BTreeMap.{get}
use Rattle.hb_frag.specs.declared.pages.Page.{Page}
use Rattle.hb_frag.specs.Grammar.{HasSpelling}
use Rattle.hb_layout.specs.declared.meta.Meta.{Meta}
use Rattle.hb_log_codec.specs.Groups.{Logged}
use Rattle.hb_store.specs.Replay.{Replayed, replay, untouched}
use Rattle.hb_store.specs.declared.touched.Touched.{Touched}
use Rattle.hb_store.specs.declared.touched.ReplayStop.{ReplayStop}
use Rattle.hb_store.specs.declared.touched.ReplayStop.TheVariants as replays
use Rattle.hb_store.specs.Opening.{HasBadGroup, HasGroups}
use Rattle.hb_store.specs.declared.touched.LogStop.{LogStop}
use Rattle.hb_store.specs.declared.touched.LogStop.TheVariants as logs
use Rattle.hb_store.specs.Replaying.{ComesAfter, HasReplayed, IsFirstBad}

-- the stop of reading a log, where a replay stops at the frame of this number
abbrev pub log_stop : ℕ → ReplayStop → LogStop
log_stop frame replays.Unfit = logs.BadGroup frame
log_stop frame replays.NoMemory = logs.NoMemory

-- Why payloads weren't replayed: the first bad one. Want of memory says nothing of them.
abbrev pub NamesBad : Meta → List (List ℕ) → LogStop → Type 0
NamesBad said payloads (logs.BadGroup frame) = IsFirstBad said payloads frame
NamesBad said payloads logs.NoMemory = Unit {0}
NamesBad said payloads logs.DiskFault = ⊥

-- The same where a bad frame is behind the payloads: it is the first bad one where all of them were replayed.
abbrev pub NamesBadOr : Meta → List (List ℕ) → LogStop → Type 0
NamesBadOr said payloads (logs.BadGroup frame) = IsFirstBad said payloads frame ⊎ ((frame ≡ length payloads) × (reached : Replayed) × HasReplayed said payloads reached)
NamesBadOr said payloads logs.NoMemory = Unit {0}
NamesBadOr said payloads logs.DiskFault = ⊥

-- What was read of a log: what the file says of itself, and the touched pages, as the replay of its groups has them.
pub record ReadsLog (bytes : List ℕ) (turn : ℕ) (said : Meta) (t : Touched) : Type 0 where
  pub payloads : List (List ℕ)
  pub groups : List Logged
  pub log : HasGroups bytes turn said payloads groups
  pub meta_is : t.meta ≡ (replay (untouched said) groups).meta
  pub pages_are : (id : ℕ) → get nat_cmp t.pages id ≡ (replay (untouched said) groups).page id

-- Whatever the disk was, what was read is of pages of the file, and can be written.
pub record IsTouched (said : Meta) (t : Touched) : Type 0 where
  pub meta : ComesAfter said t.meta
  pub pages : (id : ℕ) (page : Page) → get nat_cmp t.pages id ≡ Some page → (1 ≤ id) × (id ≤ t.meta.high) × HasSpelling page

-- Why no log was read: the first bad frame. A fault of the disk and want of memory say nothing of the bytes.
abbrev pub ReadsNoLog : List ℕ → ℕ → Meta → LogStop → Type 0
ReadsNoLog bytes turn said (logs.BadGroup frame) = HasBadGroup bytes turn said frame
ReadsNoLog bytes turn said other = Unit {0}
