-- What reading the superblocks tells.
use Rattle.std.specs.Prelude.{◌≡◌, ◌≢◌, ℕ, ◌%◌, List, drop, get_or, Option, Some, None}
use Rattle.hb_disk.specs.Calls.{open_gate}
use Rattle.hb_layout.specs.declared.meta.Meta.{Meta}
use Rattle.hb_super.specs.Superblocks.{IsLegal, HasSuper, IsNewest, HasNone, body_bytes}

-- The first 41 bytes of a place are an open gate over the legal body of this turn, which belongs there.
pub record IsSuper (place : ℕ) (bytes : List ℕ) (turn : ℕ) (meta : Meta) : Type 0 where
  pub legal : IsLegal turn meta
  pub here : turn % 2 ≡ place
  pub gate : get_or bytes 0 0 ≡ open_gate
  pub body : drop 1 bytes ≡ body_bytes turn meta

-- what they are of, or that they are of none
abbrev pub IsOf : ℕ → Option (ℕ × Meta) → List ℕ → Type 0
IsOf place None bytes = (turn : ℕ) (meta : Meta) → IsSuper place bytes turn meta → ⊥
IsOf place (Some said) bytes = IsSuper place bytes said.0 said.1

-- the superblock in a place of the disk's bytes, or that there is none
abbrev pub StandsInPlace : ℕ → Option (ℕ × Meta) → List ℕ → Type 0
StandsInPlace place None bytes = (turn : ℕ) (meta : Meta) → HasSuper bytes turn meta → turn % 2 ≢ place
StandsInPlace place (Some said) bytes = HasSuper bytes said.0 said.1 × (said.0 % 2 ≡ place)

-- the newest superblock, or that there is none
abbrev pub NewestIs : Option (ℕ × Meta) → List ℕ → Type 0
NewestIs None bytes = HasNone bytes
NewestIs (Some said) bytes = IsNewest bytes said.0 said.1

-- a superblock, if it is one, is legal
abbrev pub MayBeLegal : Option (ℕ × Meta) → Type 0
MayBeLegal None = Unit {0}
MayBeLegal (Some said) = IsLegal said.0 said.1
