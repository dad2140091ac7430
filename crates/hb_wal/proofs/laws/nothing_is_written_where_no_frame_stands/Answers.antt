use Rattle.std.proofs.Common.{ap, length, arith}
use Rattle.std.proofs.lemmas.List.{nil_from_length}
use Rattle.hb_wal.specs.Frames.{frames}
use Rattle.hb_wal.proofs.Facts.FrameCounts.{frames_count}
use Rattle.hb_wal.proofs.laws.nothing_is_written_where_no_frame_stands.Goals as goal

pub returns : goal.returns
returns c = λ payloads. (
  λ zero. nil_from_length payloads (omega (arith, zero, frames_count payloads)),
  λ none. ap (λ p. length (frames p)) none,
)
