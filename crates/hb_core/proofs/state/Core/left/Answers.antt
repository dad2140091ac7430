use Rattle.hb_core.specs.CoreSeen.{core_disk, core_seen}
use Rattle.hb_core.proofs.Running.Unanswered.{count_step}
use Rattle.hb_core.proofs.state.Core.left.Goals as goal
use Rattle.std.proofs.Math.Nat.{add-le-add}

pub loop-place-preserved : goal.loop-place-preserved
loop-place-preserved g c = record {
  few = add-le-add {a = c.loop-place.left} {b = c.loop-place.place} {c = c.count_left-left.result} {d = 1} c.loop-place.invariant.few c.count_left-left.ensures.few;
  counted = λ m shows kept.
      count_step (g.D.Device.model (core_disk c.args.self.now)) (core_seen c.args.self.now) m c.as_slice-line-items.result.now c.loop-place.place c.line-item.result c.loop-place.left c.count_left-left.result
      shows c.as_slice-line-items.ensures c.loop-place-test.true c.line-item.is (c.count_left-left.ensures.value m shows kept) (c.loop-place.invariant.counted m shows kept);
}
