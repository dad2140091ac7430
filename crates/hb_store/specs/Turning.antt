-- A disk on which the next turn may begin, and what a crash leaves while it does.
use Rattle.std.specs.Prelude.{◌≡◌, ℕ, ◌≤◌, List, [], Option, IsSome, ◌⊎◌, ◌*◌, Some}
use Rattle.hb_disk.specs.Model.{DiskModel}
use Rattle.hb_disk.specs.Calls.{IsSynced}
use Rattle.hb_frag.specs.declared.pages.Page.{Page}
use Rattle.hb_frag.specs.Grammar.{SpellsPage}
use Rattle.hb_layout.specs.declared.meta.Meta.{Meta}
use Rattle.hb_log_codec.specs.Groups.{Logged}
use Rattle.hb_ops.specs.Files.{FileState, page_of}
use Rattle.hb_space.specs.declared.form.TheConstants.{PAGE}
use Rattle.hb_super.specs.Superblocks.{next_turn}
use Rattle.hb_super.specs.Moments.{HidesNoOther}
use Rattle.hb_store.specs.Opening.{OpensBy, place_bytes}
use Rattle.hb_store.specs.Replay.{untouched, replay}
use Rattle.hb_store.specs.States.{IsSameLayout}

-- Bytes open to this file, which says this of itself, by the superblock of this turn, which says that; and these are the
-- pages that their log touches.
pub record StillOpens (turn : ℕ) (said meta : Meta) (touched : ℕ → Option Page) (s : FileState) (bytes : List ℕ) : Type 0 where
  pub layout : IsSameLayout said meta
  pub meta_is : s.meta ≡ meta
  pub payloads : List (List ℕ)
  pub groups : List Logged
  pub by : OpensBy bytes turn said payloads groups s
  pub touched_is : (id : ℕ) → (replay (untouched said) groups).page id ≡ touched id

-- a disk that tells, whose images all do so, and whose superblock places are synced
pub record IsHere (d : DiskModel) (turn : ℕ) (said meta : Meta) (touched : ℕ → Option Page) (s : FileState) : Type 0 where
  pub told : IsSome d.told
  pub images : (c : List ℕ) → d.Image c → StillOpens turn said meta touched s c
  pub places : IsSynced d 0 (2 * PAGE)

-- each page up to this number also reads in its place
pub record IsPlacedTo (last : ℕ) (d : DiskModel) (turn : ℕ) (said meta : Meta) (touched : ℕ → Option Page) (s : FileState) : Type 0 where
  pub here : IsHere d turn said meta touched s
  pub there : (id : ℕ) (page : Page) → id ≤ last → page_of s id ≡ Some page → (b : List ℕ) → d.told ≡ Some b → SpellsPage (place_bytes meta id b) page

-- every page does
abbrev pub IsPlaced : DiskModel → ℕ → Meta → Meta → (ℕ → Option Page) → FileState → Type 0
IsPlaced d turn said meta touched s = IsPlacedTo meta.high d turn said meta touched s

-- The next turn may begin: every page reads in its place, and the place of the next turn hides no other body of that turn.
pub record MayTurn (d : DiskModel) (turn : ℕ) (said meta : Meta) (touched : ℕ → Option Page) (s : FileState) : Type 0 where
  pub placed : IsPlaced d turn said meta touched s
  pub hides : (b : List ℕ) → d.told ≡ Some b → HidesNoOther b (next_turn turn) meta

-- Bytes open to the file still by the superblock of this turn, or by that of the next one, over a log without a frame.
abbrev pub OpensByEither : ℕ → Meta → Meta → (ℕ → Option Page) → FileState → List ℕ → Type 0
OpensByEither turn said meta touched s c = StillOpens turn said meta touched s c ⊎ OpensBy c (next_turn turn) meta [] [] s
