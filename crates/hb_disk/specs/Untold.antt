-- A disk that tells nothing: only its size and its counts of faults are known, and no image is.
use Rattle.std.specs.Prelude.{ℕ, ◌≤◌, None}
use Rattle.std.proofs.Common.{arith}
use Rattle.hb_disk.specs.Model.{DiskModel, IsDisk, last_value}

abbrev pub untold_of : ℕ → ℕ → ℕ → DiskModel
untold_of size reads writes = record {
  told = None;
  size = size;
  clock = 0;
  Image = λ image. ⊥;
  ImageSince = λ t image. ⊥;
  read_faults = reads;
  write_faults = writes;
}

pub untold_is_disk : (size reads writes : ℕ) → size ≤ last_value → IsDisk (untold_of size reads writes)
untold_is_disk size reads writes fits = record {
  as_read = λ b told. cc told;
  long = λ b image. absurd image;
  bytes = λ b image. absurd image;
  counts_now = λ t b le image. image;
  only_now = λ b left. left;
  clock_fits = omega arith;
  size_fits = fits;
}
