-- What a crash leaves while a superblock is written.
use Rattle.std.specs.Prelude.{◌≡◌, ◌≢◌, ◌⊎◌, ℕ, ◌+◌, List, take, drop, get_or, replicate, Option, Some, None, Result, IsErr}
use Rattle.hb_disk.specs.Model.{DiskModel, Torn, overwritten}
use Rattle.hb_disk.specs.Calls.{open_gate, ReadsOnly}
use Rattle.hb_layout.specs.declared.meta.Meta.{Meta}
use Rattle.hb_layout.specs.Offsets.{slot_offset}
use Rattle.hb_super.specs.Superblocks.{IsLegal, IsNewest, body_bytes}
use Rattle.hb_disk.specs.Runs.{WritesThrough}

-- The gate stood closed over a body of this turn, as a write that was cut short leaves it, and the crash tore it open.
pub record IsUncovered (before : List ℕ) (turn : ℕ) (c : List ℕ) : Type 0 where
  pub said : Meta
  pub closed : get_or before (slot_offset turn) 0 ≢ open_gate
  pub body : take 40 (drop (slot_offset turn + 1) before) ≡ body_bytes turn said
  pub newest : IsNewest c turn said

-- A list of bytes that a crash could leave before, but for the place of this turn; and its newest superblock is the old
-- one, or the new one, or one of the new turn whose gate was never opened.
pub record WriteLeaves (d : DiskModel) (before : List ℕ) (old : ℕ) (said : Meta) (turn : ℕ) (meta : Meta) (c : List ℕ) : Type 0 where
  pub base : List ℕ
  pub image : d.Image base
  pub elsewhere : Torn (slot_offset turn) 41 base c
  pub newest : IsNewest c old said ⊎ IsNewest c turn meta ⊎ IsUncovered before turn c

-- A gate that is closed has no other body of this turn behind it than the one that says this.
abbrev pub NoOther : ℕ → Meta → ℕ → List ℕ → Type 0
NoOther turn meta gate body = gate ≢ open_gate → (said : Meta) → IsLegal turn said → body ≡ body_bytes turn said → said ≡ meta

-- The place of this turn has no body of the turn, whatever its gate is. So a gate that a crash tears open uncovers none.
abbrev pub HasNoBody : List ℕ → ℕ → Type 0
HasNoBody bytes turn = (said : Meta) → take 40 (drop (slot_offset turn + 1) bytes) ≢ body_bytes turn said

-- Behind a closed gate the place of this turn has no other body of the turn than the one that says this.
abbrev pub HidesNoOther : List ℕ → ℕ → Meta → Type 0
HidesNoOther before turn meta = NoOther turn meta (get_or before (slot_offset turn) 0) (take 40 (drop (slot_offset turn + 1) before))

-- what a legal body of this turn says, or that the bytes are none
abbrev pub SaysOf : ℕ → Option Meta → List ℕ → Type 0
SaysOf turn None body = (said : Meta) → IsLegal turn said → body ≡ body_bytes turn said → ⊥
SaysOf turn (Some said) body = IsLegal turn said × (body ≡ body_bytes turn said)

-- A gate is closed over a body of this turn that says something else than this.
pub record IsOther (turn : ℕ) (meta : Meta) (gate : ℕ) (body : List ℕ) : Type 0 where
  pub said : Meta
  pub closed : gate ≢ open_gate
  pub legal : IsLegal turn said
  pub body_is : body ≡ body_bytes turn said
  pub other : said ≢ meta

-- The place of this turn is closed over another body of the turn.
abbrev pub HidesOther : List ℕ → ℕ → Meta → Type 0
HidesOther bytes turn meta = IsOther turn meta (get_or bytes (slot_offset turn) 0) (take 40 (drop (slot_offset turn + 1) bytes))

-- What the clearing of a place did: it only read; or it read, and then zeroed the body of this turn's place.
abbrev pub Clears : {T E : Type 0} → ℕ → Result T E → DiskModel → DiskModel → Type 0
Clears turn result old new =
    ReadsOnly (IsErr result) old new
    ⊎ WritesThrough (λ b. overwritten b (slot_offset turn + 1) (replicate 40 0)) (Torn (slot_offset turn + 1) 40) 2 result old new

-- Bytes that a crash could leave before, but for the body of this turn's place; and the old superblock is the newest.
pub record ClearLeaves (d : DiskModel) (old : ℕ) (said : Meta) (turn : ℕ) (c : List ℕ) : Type 0 where
  pub base : List ℕ
  pub image : d.Image base
  pub elsewhere : Torn (slot_offset turn + 1) 40 base c
  pub newest : IsNewest c old said
