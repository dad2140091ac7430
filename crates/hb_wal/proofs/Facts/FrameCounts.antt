-- How many frames there are.
use Rattle.std.proofs.Common.{ℕ, ◌≤◌, List, [], ◌∷◌, length, arith, length-append}
use Rattle.hb_wal.specs.Frames.{frames, frame_bytes}

-- there are no more frames than bytes
pub frames_count : (payloads : List (List ℕ)) → length payloads ≤ length (frames payloads)
frames_count [] = omega arith
frames_count (p ∷ payloads) = omega (arith, frames_count payloads, length-append (frame_bytes p) (frames payloads))
