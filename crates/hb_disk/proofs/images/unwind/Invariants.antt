use Rattle.std.proofs.Common.{◌≡◌, length, reverse}
use Rattle.hb_disk.specs.Events.{AllLieWithin, as_synced}
use Rattle.hb_disk.proofs.images.unwind.Given as goal

abbrev pub invariant-loop-event : goal.invariant-loop-event
invariant-loop-event l = record {
  synced : as_synced l.bytes (reverse l.rest) ≡ as_synced l.fn.bytes (reverse l.fn.events);
  reach : AllLieWithin (length l.bytes) (reverse l.rest);
}

abbrev pub decreases-loop-event : goal.decreases-loop-event
decreases-loop-event l = length l.rest
