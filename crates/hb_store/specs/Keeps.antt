-- What a store keeps of the disk: four records with a name each, joined; and a disk from which it may start.
use Rattle.std.specs.Prelude.{◌≡◌, ◌⊎◌, ℕ, Bool, List, [], Some, IsSome}
use Rattle.hb_disk.specs.Model.{DiskModel}
use Rattle.hb_layout.specs.Offsets.{log_start}
use Rattle.hb_layout.specs.declared.meta.Meta.{Meta}
use Rattle.hb_super.specs.Superblocks.{IsNewest}
use Rattle.hb_frag.specs.declared.pages.Page.{Page}
use Rattle.hb_frag.specs.Grammar.{SpellsPage}
use Rattle.hb_ops.specs.Files.{FileState, page_of, last_of}
use Rattle.hb_store.specs.Opening.{OpensTo, place_bytes}
use Rattle.hb_store.specs.States.{StoreState, in_memory, is_dirty, is_in_log}
use Rattle.hb_store.specs.Parts.{Parts, OpensByParts, IsRunning, IsDurable, IsWaiting, IsInLog, IsInMemory}

-- What a store keeps over a disk that tells. `durable` is the durable file; `later` are the files after each group that
-- waits. The last one is the store's file.
pub record StoreKeeps (d : DiskModel) (st : StoreState) (durable : FileState) (later : List FileState) : Type 0 where
  -- what the disk and the groups that wait spell
  pub parts : Parts
  -- what is durable
  pub disk : IsDurable d st.turn st.log st.stopped parts durable later
  -- what waits
  pub waits : IsWaiting st.log.groups parts durable later
  -- what is in the log
  pub in_log : IsInLog d (is_in_log st) parts (last_of durable later)
  -- what is in memory
  pub memory : IsInMemory d st.meta (in_memory st) (is_dirty st) parts (last_of durable later)

-- A disk from which a store may start: every image opens to this file, both superblock places and the log area of this
-- turn are synced, the place of the next turn has no body of that turn, the area reads as zeros, and every page stands
-- synced in its place.
pub record IsFresh (d : DiskModel) (turn : ℕ) (meta : Meta) (s : FileState) : Type 0 where
  -- the disk tells its bytes
  pub told : IsSome d.told
  -- the file says this of itself
  pub meta_is : s.meta ≡ meta
  -- the newest superblock of each image says so
  pub newest : (c : List ℕ) → d.Image c → IsNewest c turn meta
  -- each image opens to the file
  pub images : (c : List ℕ) → d.Image c → OpensTo c s
  -- all is as in a running store, and the log has no frame
  pub running : IsRunning d turn (record { area = log_start turn meta; len = meta.log; written = 0; groups = [] }) []
  -- each page stands in its place in each image
  pub pages : (id : ℕ) (page : Page) → page_of s id ≡ Some page → (c : List ℕ) → d.Image c → SpellsPage (place_bytes meta id c) page

-- An image opens to the durable file, or to the one after all groups that wait.
abbrev pub OpensToEither : FileState → List FileState → List ℕ → Type 0
OpensToEither durable later c = OpensTo c durable ⊎ OpensTo c (last_of durable later)

-- Bytes that open by the parts of a store open so.
abbrev pub PartsOpen : Type 0
PartsOpen = (c : List ℕ) (turn : ℕ) (stopped : Bool) (p : Parts) (durable : FileState) (later : List FileState) → OpensByParts c turn stopped p durable later → OpensToEither durable later c
