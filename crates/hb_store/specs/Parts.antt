-- What a store keeps of the disk, in parts: what is durable, what waits, what is in the log and what is in memory.
use Rattle.std.specs.Prelude.{◌≡◌, ◌⊎◌, ℕ, List, [], ◌∷◌, Some, IsSome, ◌*◌, Bool, false, ◌++◌, length, map, flat_map, All, Option, IsTrue, is_some}
use Rattle.hb_disk.specs.Model.{DiskModel}
use Rattle.hb_layout.specs.Offsets.{slot_offset}
use Rattle.hb_layout.specs.declared.meta.Meta.{Meta}
use Rattle.hb_super.specs.Superblocks.{next_turn}
use Rattle.hb_frag.specs.declared.pages.Page.{Page}
use Rattle.hb_frag.specs.Grammar.{SpellsPage}
use Rattle.hb_ops.specs.Files.{FileState, page_of, last_of}
use Rattle.hb_store.specs.Opening.{place_bytes, OpensBy, Shows}
use Rattle.hb_store.specs.States.{IsSameLayout}
use Rattle.hb_space.specs.declared.form.TheConstants.{PAGE}
use Rattle.hb_disk.specs.Calls.{IsSynced}
use Rattle.hb_wal.specs.Frames.{frames}
use Rattle.hb_wal.specs.Log.{LogState, Waiting}
use Rattle.hb_wal.specs.Forces.{HasLog}
use Rattle.hb_super.specs.Moments.{HasNoBody}
use Rattle.hb_ops.specs.Operations.{IsAllowed, IsLicensed, effect_of}
use Rattle.hb_log_codec.specs.Groups.{Logged, FitsGroup, group_bytes}
use Rattle.hb_store.specs.Replay.{Replayed, untouched, replay, after_group, MayFollow}

-- each page image is a page of the file as it is
abbrev pub ArePageImagesOf : FileState → List (ℕ × Page) → Type 0
ArePageImagesOf s images = All (λ i. page_of s i.0 ≡ Some i.1) images

-- From a file on, groups lead through these files: each group may be replayed, its page images are pages of the file before
-- it, its operation is allowed and licensed there, and the next file is that after the operation.
abbrev pub Leads : Replayed → FileState → List Logged → List FileState → Type 0
Leads t s [] later = later ≡ []
Leads t s (g ∷ rest) [] = ⊥
Leads t s (g ∷ rest) (next ∷ later) = MayFollow t g × ArePageImagesOf s g.images × IsAllowed s g.op × IsLicensed s g.op × (next ≡ effect_of s g.op) × Leads (after_group t g) next rest later

-- What no code has, but the disk and the groups that wait spell.
pub record Parts : Type 0 where
  -- what the newest superblock says of the file
  pub said : Meta
  -- the payloads of the written frames
  pub payloads : List (List ℕ)
  -- the groups that these spell
  pub written : List Logged
  -- the groups that wait
  pub waiting : List Logged

-- the touched pages after the written groups, and after those that wait too
abbrev pub written_pages : Parts → Replayed
written_pages p = replay (untouched p.said) p.written

abbrev pub all_pages : Parts → Replayed
all_pages p = replay (untouched p.said) (p.written ++ p.waiting)

-- an image that has the frame of all groups that wait
abbrev pub OpensNext : List ℕ → ℕ → Meta → List (List ℕ) → List Logged → List Logged → FileState → Type 0
OpensNext c turn said payloads written waiting next = OpensBy c turn said (payloads ++ flat_map group_bytes waiting ∷ []) (written ++ waiting) next

-- Bytes open to the durable file; in a stopped store perhaps to the file after all groups that wait, as a failed force leaves it; and
-- after a failed switch, in which none waits, perhaps to the durable file by the next turn's superblock, over a log without a frame.
abbrev pub OpensByParts : List ℕ → ℕ → Bool → Parts → FileState → List FileState → Type 0
OpensByParts c turn stopped p durable later =
    OpensBy c turn p.said p.payloads p.written durable
    ⊎ (IsTrue stopped × OpensNext c turn p.said p.payloads p.written p.waiting (last_of durable later))
    ⊎ (IsTrue stopped × OpensBy c (next_turn turn) durable.meta [] [] durable)

-- Both superblock places and the area are synced, and the area reads as the written frames and zeros. The place of the
-- next turn has no body of that turn.
pub record IsRunning (d : DiskModel) (turn : ℕ) (log : LogState) (payloads : List (List ℕ)) : Type 0 where
  -- a crash now leaves both superblock places as they read
  pub places : IsSynced d 0 (2 * PAGE)
  -- no write of the next turn's superblock was cut short there
  pub no_body : (b : List ℕ) → d.told ≡ Some b → HasNoBody b (next_turn turn)
  -- and the log area, which reads as the written frames
  pub logged : HasLog d log payloads

-- The durable file is what the disk has, by the superblock of the store's turn and the written frames.
pub record IsDurable (d : DiskModel) (turn : ℕ) (log : LogState) (stopped : Bool) (p : Parts) (durable : FileState) (later : List FileState) : Type 0 where
  -- the disk tells its bytes
  pub told : IsSome d.told
  -- the log counts the bytes of the written frames
  pub count : length (frames p.payloads) ≡ log.written
  -- every image opens so
  pub images : (c : List ℕ) → d.Image c → OpensByParts c turn stopped p durable later
  -- whatever stands behind the written frames, these groups and the places make it
  pub shows : (c : List ℕ) → d.Image c → Shows c p.said (written_pages p) durable
  -- in a store that was not stopped all is synced
  pub running : stopped ≡ false → IsRunning d turn log p.payloads
  -- the place of the turn's superblock and the written frames are synced, also in a stopped store
  pub kept : IsSynced d (slot_offset turn) PAGE × IsSynced d log.area log.written

-- The groups that wait are these, and lead from the durable file through the later ones.
pub record IsWaiting (groups : List Waiting) (p : Parts) (durable : FileState) (later : List FileState) : Type 0 where
  -- the log has their bytes
  pub spelled : map (λ w. w.bytes) groups ≡ map group_bytes p.waiting
  -- each has its place in a frame
  pub fits : All (FitsGroup p.said.k) p.waiting
  -- they lead from the durable file on
  pub leads : Leads (written_pages p) durable p.waiting later

-- The pages in this turn's log are those that the groups touch; the others of the file stand synced.
pub record IsInLog (d : DiskModel) (in_log : ℕ → Bool) (p : Parts) (file : FileState) : Type 0 where
  -- a number is one of these where the replay of the groups has its page
  pub touched : (id : ℕ) → in_log id ≡ is_some ((all_pages p).page id)
  -- what is not stands in its place in each image
  pub synced : (id : ℕ) (page : Page) → in_log id ≡ false → page_of file id ≡ Some page → (c : List ℕ) → d.Image c → SpellsPage (place_bytes p.said id c) page

-- Memory has what the file says of itself, and pages of it; a page reads in its place as the file has it, but for one that is in memory
-- and is to be written there still.
pub record IsInMemory (d : DiskModel) (meta : Meta) (page_in : ℕ → Option Page) (dirty : ℕ → Bool) (p : Parts) (file : FileState) : Type 0 where
  -- the file was laid down as the superblock says
  pub layout : IsSameLayout p.said meta
  -- the file says of itself what the store says
  pub meta_is : file.meta ≡ meta
  -- a page in memory is the page of the file
  pub cached : (id : ℕ) (page : Page) → page_in id ≡ Some page → page_of file id ≡ Some page
  -- one that is in none, or in a clean one, is read from its place
  pub placed : (id : ℕ) (page : Page) (b : List ℕ) → dirty id ≡ false → page_of file id ≡ Some page → d.told ≡ Some b → SpellsPage (place_bytes p.said id b) page
