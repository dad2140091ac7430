-- What opening a file makes of its disk, once it is found: the touched pages are written to their places, and the next
-- turn begins.
use Rattle.std.specs.Prelude.{◌≡◌, ℕ, ◌+◌, ◌≤◌, List, Option, IsSome, ◌⊎◌, Some, zero, suc, ◌<◌, None}
use Rattle.hb_disk.specs.Model.{DiskModel}
use Rattle.hb_frag.specs.declared.pages.Page.{Page}
use Rattle.hb_layout.specs.declared.meta.Meta.{Meta}
use Rattle.hb_store.specs.Opening.{place_bytes}
use Rattle.hb_outside.specs.Streams.{Rose}
use Rattle.hb_frag.specs.Grammar.{SpellsPage}
use Rattle.hb_restart.specs.Beyond.{KeepsBeyond}

-- one for a page, and nothing where there is none
abbrev pub one_for : Option Page → ℕ
one_for (Some page) = 1
one_for None = 0

-- How many of the pages up to this number a log touches. So for a touched page: which of the touched ones it is, from 1.
abbrev pub touched_to : (ℕ → Option Page) → ℕ → ℕ
touched_to touched zero = 0
touched_to touched (suc id) = touched_to touched id + one_for (touched (suc id))

-- The disk after calls that began where the clock stood at `from` and these bytes were read, whichever call failed. The
-- n-th touched page is a matter of the n-th call alone: before that call its place reads as at first, and behind it, it
-- has the page. The place of another page always reads as at first.
--
-- A call that fails may leave any bytes in its range. So this says of each call that may fail, which is each, on which
-- places its range may lie: on that of the touched page whose turn it is, and on no other page's.
pub record WritesEachOnce (from : ℕ) (bytes : List ℕ) (meta : Meta) (touched : ℕ → Option Page) (d : DiskModel) : Type 0 where
  pub written : (id : ℕ) (page : Page) → 1 ≤ id → id ≤ meta.high → touched id ≡ Some page → from + touched_to touched id < d.clock → (c : List ℕ) → d.told ≡ Some c → SpellsPage (place_bytes meta id c) page
  pub waits : (id : ℕ) → 1 ≤ id → id ≤ meta.high → d.clock < from + touched_to touched id → (c : List ℕ) → d.told ≡ Some c → place_bytes meta id c ≡ place_bytes meta id bytes
  pub others : (id : ℕ) → 1 ≤ id → touched id ≡ None → (c : List ℕ) → d.told ≡ Some c → place_bytes meta id c ≡ place_bytes meta id bytes

-- A whole run: a call for each touched page, and then eleven more at most.
pub record WritesAll (from : ℕ) (bytes : List ℕ) (meta : Meta) (touched : ℕ → Option Page) (d : DiskModel) : Type 0 where
  pub each : WritesEachOnce from bytes meta touched d
  pub least : from + touched_to touched meta.high ≤ d.clock
  pub most : d.clock ≤ from + (touched_to touched meta.high + 11)

-- In the midst of it, between two calls: the touched pages up to this number are written, and no other.
pub record IsWrittenTo (last from : ℕ) (bytes : List ℕ) (meta : Meta) (touched : ℕ → Option Page) (d : DiskModel) : Type 0 where
  pub tells : IsSome d.told
  pub time : d.clock ≡ from + touched_to touched last
  pub written : (id : ℕ) (page : Page) → 1 ≤ id → id ≤ last → touched id ≡ Some page → (c : List ℕ) → d.told ≡ Some c → SpellsPage (place_bytes meta id c) page
  pub waits : (id : ℕ) → last < id → (c : List ℕ) → d.told ≡ Some c → place_bytes meta id c ≡ place_bytes meta id bytes
  pub others : (id : ℕ) → 1 ≤ id → touched id ≡ None → (c : List ℕ) → d.told ≡ Some c → place_bytes meta id c ≡ place_bytes meta id bytes

-- Calls of a disk, reads and others: where they failed so, a count of failed ones rose, elsewhere none did, and none falls.
pub record DiskFaults (failed : Type 0) (old new : DiskModel) : Type 0 where
  pub cause : failed → Rose old.read_faults new.read_faults ⊎ Rose old.write_faults new.write_faults
  pub no_fault : (failed → ⊥) → (new.read_faults ≡ old.read_faults) × (new.write_faults ≡ old.write_faults)
  pub reads : old.read_faults ≤ new.read_faults
  pub writes : old.write_faults ≤ new.write_faults

-- A run of at most so many calls that write, on the first so many bytes, which may fail so.
pub record Runs (most within : ℕ) (failed : Type 0) (old new : DiskModel) : Type 0 where
  pub beyond : KeepsBeyond within old new
  pub few : IsSome old.told → new.clock ≤ old.clock + most
  pub faults : DiskFaults failed old new
