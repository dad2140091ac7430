use Rattle.std.proofs.Common.{List, ℕ, length, reverse}
use Rattle.hb_disk.specs.Events.{AllLieWithin, IsNoise}
use Rattle.hb_disk.proofs.images.spoil.Given as goal

abbrev pub invariant-loop-event : goal.invariant-loop-event
invariant-loop-event l = record {
  goes_on : (image : List ℕ) → IsNoise l.byte l.bytes (reverse l.rest) image → IsNoise l.byte l.fn.bytes (reverse l.fn.events) image;
  reach : AllLieWithin (length l.bytes) (reverse l.rest);
}

abbrev pub decreases-loop-event : goal.decreases-loop-event
decreases-loop-event l = length l.rest
