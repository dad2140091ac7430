-- What the making of a map did to its store and its sink.
use Rattle.std.specs.Prelude.{◌≡◌, ℕ, ◌+◌, ◌<◌, ◌≤◌, ◌^◌, List, length, count_by, slice_index, Option, Result, IfErr, IfSome, IsErrOf, OnOk, OnErr}
use Rattle.hb_disk.specs.Model.{DiskModel}
use Rattle.hb_frag.specs.declared.pages.Page.{Page}
use Rattle.hb_frag.specs.declared.pages.Page.TheVariants.{Live, Free}
use Rattle.hb_frag.specs.Leaves.{WellCut, weight_of}
use Rattle.hb_layout.specs.declared.meta.Meta.{Meta}
use Rattle.hb_ops.specs.Files.{FileState, last_of}
use Rattle.hb_ops.specs.Sound.{IsSound}
use Rattle.hb_outside.specs.Streams.{Appends, AppendsFront}
use Rattle.hb_pool.specs.Frames.{Use, must_stay}
use Rattle.hb_store.specs.Calls.{KeepsAllButPages}
use Rattle.hb_store.specs.Fetching.{IsDamagedBy, IsRuleOfPage, LooksUp}
use Rattle.hb_store.specs.Held.{StoreHeld}
use Rattle.hb_store.specs.Keeps.{StoreKeeps}
use Rattle.hb_store.specs.Opening.{place_bytes}
use Rattle.hb_store.specs.declared.stops.FetchStop.{FetchStop}
use Rattle.hb_store.specs.declared.stops.FetchStop.TheVariants as fetches
use Rattle.hb_store.specs.declared.stops.Why.TheVariants.{Rule, Level, Extent}
use Rattle.hb_map.specs.declared.stops.MapStop.{MapStop}
use Rattle.hb_map.specs.declared.stops.MapStop.TheVariants.{Damaged, ReadFault, SinkFault}
use Rattle.hb_map.specs.Map.{parents_of}

-- no page in memory is dirty or pinned, so that each may go where another comes
abbrev pub MayAllGo : List Use → Type 0
MayAllGo uses = count_by must_stay uses ≡ 0

-- Pages were looked at. The disk was only read, and what the store kept of it it keeps; pages came into memory that may all
-- go again; all else is as it was. `failed` says that a fault of the disk ended it.
pub record LooksThrough (failed : Type 0) (d e : DiskModel) (old new : StoreHeld) : Type 0 where
  pub looks : LooksUp failed d e old.state new.state
  pub rest : KeepsAllButPages old.state new.state
  pub may_go : MayAllGo new.uses

-- What is said of the file of a store, where its disk tells and the file is sound.
abbrev pub OfSoundFile : DiskModel → StoreHeld → (FileState → Type 0) → Type 0
OfSoundFile d held P = (durable : FileState) (later : List FileState) → StoreKeeps d held.state durable later → IsSound (last_of durable later) → P (last_of durable later)

-- a text was put, or by a stop a front of it
pub record PutsText {T E : Type 0} (text : List ℕ) (result : Result T E) (before after : Option (List ℕ)) : Type 0 where
  pub done : OnOk result (Appends before after text)
  pub tried : OnErr result (AppendsFront before after text)

-- For each page of a file how many pages name it by a child leaf; the page of number n stands at place n - 1.
pub record AreParents (s : FileState) (parents : List ℕ) : Type 0 where
  pub long : length parents ≡ length s.pages
  pub each : (place : ℕ) → place < length parents → slice_index parents place ≡ parents_of (place + 1) s.pages

-- A damaged page is one of the file, and the rule is one that a page breaks by itself: where the disk tells, what it reads as there
-- breaks it.
abbrev pub NamesPage : Meta → Option (List ℕ) → MapStop → Type 0
NamesPage meta told (Damaged page (Rule rule)) = (1 ≤ page) × (page ≤ meta.high) × IsRuleOfPage rule × IfSome told (λ b. IsDamagedBy meta (place_bytes meta page b) rule)
NamesPage meta told (Damaged page (Level asked found)) = ⊥
NamesPage meta told (Damaged page (Extent asked found)) = ⊥
NamesPage meta told stop = Unit {0}

-- what is said of a stop where a page wasn't fetched
abbrev pub map_stop_of : FetchStop → MapStop
map_stop_of (fetches.Damaged page why) = Damaged page why
map_stop_of fetches.ReadFault = ReadFault
map_stop_of fetches.Crowded = ReadFault

-- no page is damaged
abbrev pub IsNoDamage : MapStop → Type 0
IsNoDamage (Damaged page why) = ⊥
IsNoDamage stop = Unit {0}

-- what is so of each stop
pub record StopsRightly (d : DiskModel) (held : StoreHeld) (stop : MapStop) : Type 0 where
  pub names : NamesPage held.state.meta d.told stop
  -- in a sound file, over a disk that tells, no page is damaged
  pub sound : OfSoundFile d held (λ s. IsNoDamage stop)

-- Pages were read, for nothing that is put: they were looked at, and a stop is right, and isn't the sink's.
pub record Reads {T : Type 0} (result : Result T MapStop) (d e : DiskModel) (old new : StoreHeld) : Type 0 where
  pub through : LooksThrough (IsErrOf result ReadFault) d e old new
  pub stop : IfErr result (StopsRightly d old)
  pub silent : IsErrOf result SinkFault → ⊥

-- a page in use is well cut, and no heavier than its bytes let it be
abbrev pub MayBePrinted : Page → Type 0
MayBePrinted (Live page) = WellCut page × (weight_of page.frag < 2 ^ 32)
MayBePrinted (Free next) = Unit {0}
