-- The superblock: what the file says of itself, in one of two places.
use Rattle.std.specs.Prelude.{◌≡◌, ◌≢◌, ℕ, ◌+◌, ◌%◌, ◌<◌, ◌≤◌, ◌^◌, List, [], ◌∷◌, ◌++◌, take, drop, get_or}
use Rattle.hb_space.specs.declared.form.TheConstants.{VERSION}
use Rattle.hb_lemmas.specs.Numbers.{big_endian}
use Rattle.hb_disk.specs.Calls.{open_gate}
use Rattle.hb_layout.specs.declared.meta.Meta.{Meta}
use Rattle.hb_layout.specs.Limits.{IsLayout}
use Rattle.hb_layout.specs.Offsets.{slot_offset}

-- `HBPITREE` in ASCII
abbrev pub magic : List ℕ
magic = 0x48 ∷ 0x42 ∷ 0x50 ∷ 0x49 ∷ 0x54 ∷ 0x52 ∷ 0x45 ∷ 0x45 ∷ []

-- the 40 bytes of a superblock's body
abbrev pub body_bytes : ℕ → Meta → List ℕ
body_bytes turn meta =
    magic ++ (VERSION ∷ turn ∷ meta.k ∷ meta.height ∷ [])
    ++ big_endian 4 meta.pages ++ big_endian 4 meta.log ++ big_endian 2 meta.dcap ++ big_endian 2 meta.icap
    ++ big_endian 4 meta.root ++ big_endian 4 meta.high ++ big_endian 4 meta.live ++ big_endian 4 meta.free

-- what every number of a body has its bytes for
pub record FitsNumbers (meta : Meta) : Type 0 where
  pub root : meta.root < 2 ^ 32
  pub high : meta.high < 2 ^ 32
  pub live : meta.live < 2 ^ 32
  pub free : meta.free < 2 ^ 32

-- a turn and what the file says of itself make a legal body: the turn is 0 to 3, and it stands in the place of its parity
pub record IsLegal (turn : ℕ) (meta : Meta) : Type 0 where
  pub turn_fits : turn ≤ 3
  pub layout : IsLayout meta
  pub numbers : FitsNumbers meta

-- A place of the disk's bytes is open over the legal body of this turn, which belongs there.
pub record HasSuper (bytes : List ℕ) (turn : ℕ) (meta : Meta) : Type 0 where
  pub legal : IsLegal turn meta
  pub gate : get_or bytes (slot_offset turn) 0 ≡ open_gate
  pub body : take 40 (drop (slot_offset turn + 1) bytes) ≡ body_bytes turn meta

-- the turn after another
abbrev pub next_turn : ℕ → ℕ
next_turn turn = (turn + 1) % 4

-- The newest superblock: it is there, and where the other place has one too, this turn comes after that one's.
pub record IsNewest (bytes : List ℕ) (turn : ℕ) (meta : Meta) : Type 0 where
  pub there : HasSuper bytes turn meta
  pub newer : (other : ℕ) (said : Meta) → HasSuper bytes other said → other % 2 ≢ turn % 2 → turn ≡ next_turn other

-- neither place has one
abbrev pub HasNone : List ℕ → Type 0
HasNone bytes = (turn : ℕ) (meta : Meta) → HasSuper bytes turn meta → ⊥

-- a superblock is the newest
pub record OneNewest (bytes : List ℕ) : Type 0 where
  pub turn : ℕ
  pub said : Meta
  pub newest : IsNewest bytes turn said
