-- The disk model: what a disk reads as, and what a crash may leave of it.
use Rattle.std.specs.Prelude.{◌≡◌, ◌⊎◌, ℕ, ◌+◌, ◌-◌, ◌^◌, ◌<◌, ◌≤◌, List, ◌++◌, length, take, drop, All, Option, Some}

-- A disk as contracts see it. `told` is what a read gives, where the disk tells it. `clock` counts the writes, zeroes
-- and syncs, failed ones included. `Image` holds of what a crash now may leave, and `ImageSince t` of what a crash at
-- some moment since clock value t might have left, during a call or between two. The last two count failed calls.
pub record DiskModel : Type 1 where
  pub told : Option (List ℕ)
  pub size : ℕ
  pub clock : ℕ
  pub Image : List ℕ → Type 0
  pub ImageSince : ℕ → List ℕ → Type 0
  pub read_faults : ℕ
  pub write_faults : ℕ

-- the last value of a clock or of a count
abbrev pub last_value : ℕ
last_value = 2 ^ 64 - 1

-- What holds of every disk at all times: it is one of its own images as it reads, each image is as long as the disk,
-- an image of now is one since any earlier moment, and since now there is no other.
pub record IsDisk (d : DiskModel) : Type 0 where
  pub as_read : (b : List ℕ) → d.told ≡ Some b → d.Image b
  pub long : (b : List ℕ) → d.Image b → length b ≡ d.size
  pub bytes : (b : List ℕ) → d.Image b → All (λ x. x < 2 ^ 8) b
  pub counts_now : (t : ℕ) (b : List ℕ) → t ≤ d.clock → d.Image b → d.ImageSince t b
  pub only_now : (b : List ℕ) → d.ImageSince d.clock b → d.Image b
  pub clock_fits : d.clock ≤ last_value
  pub size_fits : d.size ≤ last_value

-- these bytes with the piece at this place
abbrev pub overwritten : List ℕ → ℕ → List ℕ → List ℕ
overwritten bytes at piece = take at bytes ++ piece ++ drop (at + length piece) bytes

-- A range of n bytes may have been torn: any bytes stand in it, and the same as before outside it.
pub record Torn (at n : ℕ) (before after : List ℕ) : Type 0 where
  pub in_front : take at after ≡ take at before
  pub behind : drop (at + n) after ≡ drop (at + n) before
  pub as_long : length after ≡ length before
  pub bytes : All (λ x. x < 2 ^ 8) after

-- no moment but those that were, and now
pub record Elapses (old new : DiskModel) : Type 0 where
  pub nothing_else : (t : ℕ) (c : List ℕ) → t ≤ old.clock → new.ImageSince t c → old.ImageSince t c ⊎ new.Image c
  pub keeps : (t : ℕ) (c : List ℕ) → t ≤ old.clock → old.ImageSince t c → new.ImageSince t c

-- all that a disk is seen as stays, but for the counts of faults
pub record Stays (old new : DiskModel) : Type 0 where
  pub told : new.told ≡ old.told
  pub size : new.size ≡ old.size
  pub clock : new.clock ≡ old.clock
  pub image : (c : List ℕ) → new.Image c → old.Image c
  pub image_kept : (c : List ℕ) → old.Image c → new.Image c
  pub since : (t : ℕ) (c : List ℕ) → new.ImageSince t c → old.ImageSince t c
  pub since_kept : (t : ℕ) (c : List ℕ) → old.ImageSince t c → new.ImageSince t c
