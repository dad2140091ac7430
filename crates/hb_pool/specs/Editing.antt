-- A change of a page's bytes where they stand: what it may leave of them is a relation of the bytes before and after.
use Rattle.std.specs.Prelude.{◌≡◌, ℕ, ◌<◌, List, Some, length}
use Rattle.std.specs.List.{All}
use Rattle.hb_space.specs.declared.form.TheConstants.{PAGE}
use Rattle.hb_pool.specs.Frames.{Frame, filled}
use Rattle.hb_pool.specs.Pools.{frame_of, put_last}

-- these are the bytes of a whole page
pub record AreWhole (bytes : List ℕ) : Type 0 where
  pub long : length bytes ≡ PAGE
  pub each : All (λ b. b < 256) bytes

-- a frame has other bytes, made of those that it had, and is dirty
pub record Fills (change : List ℕ → List ℕ → Type 0) (old new : Frame (List ℕ)) : Type 0 where
  pub bytes : List ℕ
  pub changed : change old.bytes bytes
  pub whole : AreWhole bytes
  pub left : new ≡ filled bytes old

-- the page's frame has other bytes, made of those that it had; it is dirty, and last in the order
pub record Edits (id : ℕ) (change : List ℕ → List ℕ → Type 0) (old new : List (Frame (List ℕ))) : Type 0 where
  pub frame : Frame (List ℕ)
  pub there : frame_of old id ≡ Some frame
  pub bytes : List ℕ
  pub changed : change frame.bytes bytes
  pub whole : AreWhole bytes
  pub left : new ≡ put_last id (filled bytes) old
