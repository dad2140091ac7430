use Rattle.std.proofs.Common.{◌+◌, ◌-◌, ◌*◌, ◌≤◌, length, IfSome, option_map}
use Rattle.hb_view.specs.Corners.{point_there}
use Rattle.hb_view.proofs.ListsPassed.{LeftOf}
use Rattle.hb_view.proofs.well_made.past_records.Given as goal

-- who goes past the records that are left goes past all
abbrev pub invariant-loop : goal.invariant-loop
invariant-loop l = record {
  left : LeftOf l.k.number l.bounds (option_map (λ b. point_there l.k.number b.now) l.last) (l.count - l.counter) l.rest l.count l.bytes;
  room : IfSome l.last (λ b. 8 * l.k.number ≤ length b.now);
  few : l.counter + length l.rest ≤ length l.bytes;
}
