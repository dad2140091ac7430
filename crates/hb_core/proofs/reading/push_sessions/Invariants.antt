use Rattle.std.proofs.Common.{◌≡◌, ◌≤◌, replicate}
use Rattle.hb_activity.specs.declared.activities.Activity.TheVariants.{SessionIdle}
use Rattle.hb_core.proofs.reading.push_sessions.Given as goal

abbrev pub invariant-loop : goal.invariant-loop
invariant-loop l = record {
  few : l.counter ≤ 16;
  pushed : l.actors.items ≡ replicate l.counter SessionIdle;
}
