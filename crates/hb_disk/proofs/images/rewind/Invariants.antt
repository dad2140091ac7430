use Rattle.std.proofs.Common.{◌≡◌, length, reverse}
use Rattle.hb_disk.specs.Events.{AllLieWithin, rewound}
use Rattle.hb_disk.proofs.images.rewind.Given as goal

abbrev pub invariant-loop-event : goal.invariant-loop-event
invariant-loop-event l = record {
  moment : rewound l.before l.bytes (reverse l.rest) ≡ rewound l.before l.fn.bytes (reverse l.fn.events);
  reach : AllLieWithin (length l.bytes) (reverse l.rest);
}

abbrev pub decreases-loop-event : goal.decreases-loop-event
decreases-loop-event l = length l.rest
