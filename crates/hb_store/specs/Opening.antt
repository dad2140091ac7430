-- What a list of bytes opens to: the newest superblock, the replay of its log, and the pages in their places.
use Rattle.std.specs.Prelude.{◌≡◌, ◌⊎◌, ℕ, ◌≤◌, List, ◌++◌, length, All, Option, Some, None, IsSome, [], ◌∷◌}
use Rattle.hb_space.specs.declared.form.TheConstants.{PAGE}
use Rattle.hb_disk.specs.Model.{DiskModel}
use Rattle.hb_wal.specs.Frames.{frames, range, HasFrames, IsBadFrame, IsPayload}
use Rattle.hb_wal.specs.Reading.{BeginsFrame}
use Rattle.hb_super.specs.Superblocks.{IsNewest}
use Rattle.hb_frag.specs.declared.pages.Page.{Page}
use Rattle.hb_frag.specs.Grammar.{SpellsPage}
use Rattle.hb_layout.specs.declared.meta.Meta.{Meta}
use Rattle.hb_layout.specs.Offsets.{file_size, log_start, page_offset}
use Rattle.hb_ops.specs.Files.{FileState, page_of}
use Rattle.hb_log_codec.specs.Groups.{Logged, SpellsGroups}
use Rattle.hb_store.specs.Replay.{Replayed, untouched, replay, MayReplay}

-- the bytes of a turn's log area, and those in the place of a page
abbrev pub log_bytes : ℕ → Meta → List ℕ → List ℕ
log_bytes turn meta bytes = range (log_start turn meta) meta.log bytes

abbrev pub place_bytes : Meta → ℕ → List ℕ → List ℕ
place_bytes meta id bytes = range (page_offset meta id) PAGE bytes

-- These payloads, each by itself, spell these groups, in order.
abbrev pub SpellAll : ℕ → List (List ℕ) → List Logged → Type 0
SpellAll k [] groups = groups ≡ []
SpellAll k (payload ∷ rest) groups = (front : List Logged) × (behind : List Logged) × (groups ≡ front ++ behind) × SpellsGroups k payload front × SpellAll k rest behind

-- The frames of the log of a turn have these payloads, which spell these groups, and they may be replayed.
pub record HasGroups (bytes : List ℕ) (turn : ℕ) (said : Meta) (payloads : List (List ℕ)) (groups : List Logged) : Type 0 where
  pub framed : HasFrames (log_bytes turn said bytes) payloads
  pub spelled : SpellAll said.k payloads groups
  pub replayed : MayReplay (untouched said) groups

-- A page of the file is the touched one, or where it wasn't touched the one that its place spells.
abbrev pub IsPageIn : List ℕ → Meta → ℕ → Option Page → Page → Type 0
IsPageIn bytes meta id None page = SpellsPage (place_bytes meta id bytes) page
IsPageIn bytes meta id (Some touched) page = touched ≡ page

-- the file that a replay and the places of this layout make
pub record Shows (bytes : List ℕ) (said : Meta) (t : Replayed) (s : FileState) : Type 0 where
  pub meta : s.meta ≡ t.meta
  pub count : length s.pages ≡ t.meta.high
  pub each : (id : ℕ) (page : Page) → page_of s id ≡ Some page → IsPageIn bytes said id (t.page id) page

-- Bytes open to a file by this superblock, the frames of these payloads, and these groups.
pub record OpensBy (bytes : List ℕ) (turn : ℕ) (said : Meta) (payloads : List (List ℕ)) (groups : List Logged) (s : FileState) : Type 0 where
  pub newest : IsNewest bytes turn said
  pub fits : file_size said ≤ length bytes
  pub log : HasGroups bytes turn said payloads groups
  pub shows : Shows bytes said (replay (untouched said) groups) s

pub record OpensTo (bytes : List ℕ) (s : FileState) : Type 0 where
  pub turn : ℕ
  pub said : Meta
  pub payloads : List (List ℕ)
  pub groups : List Logged
  pub by : OpensBy bytes turn said payloads groups s

-- A payload isn't a list of groups that may be replayed here.
abbrev pub IsBadPayload : ℕ → Replayed → List ℕ → Type 0
IsBadPayload k t payload = (groups : List Logged) → SpellsGroups k payload groups → MayReplay t groups → ⊥

-- The frame of this number, counted from 0, is the first bad one: its length is bad, or its payload.
pub record HasBadGroup (bytes : List ℕ) (turn : ℕ) (said : Meta) (frame : ℕ) : Type 0 where
  pub before : List (List ℕ)
  pub groups : List Logged
  pub rest : List ℕ
  pub counted : frame ≡ length before
  pub payloads_fit : All IsPayload before
  pub framed : log_bytes turn said bytes ≡ frames before ++ rest
  pub spelled : SpellAll said.k before groups
  pub replayed : MayReplay (untouched said) groups
  pub bad : IsBadFrame rest ⊎ ((payload : List ℕ) × BeginsFrame rest payload × IsBadPayload said.k (replay (untouched said) groups) payload)

-- An even disk: every image of now opens to this file.
pub record IsEven (d : DiskModel) (s : FileState) : Type 0 where
  pub told : IsSome d.told
  pub images : (c : List ℕ) → d.Image c → OpensTo c s

-- Bytes open to one file at most, and where they do no frame of their log is bad.
abbrev pub OpensToOne : Type 0
OpensToOne = (bytes : List ℕ) (s t : FileState) → OpensTo bytes s → OpensTo bytes t → s ≡ t

abbrev pub OpensWhole : Type 0
OpensWhole = (bytes : List ℕ) (s : FileState) (turn : ℕ) (said : Meta) (frame : ℕ) → OpensTo bytes s → IsNewest bytes turn said → HasBadGroup bytes turn said frame → ⊥
