use Rattle.hb_core.specs.CoreSeen.{core_disk, core_seen}
use Rattle.std.proofs.Common.{length}
use Rattle.std.specs.Vec.{vec_capacity}
use Rattle.hb_core.proofs.Running.Unanswered.{one_longer, put_all, put_step}
use Rattle.hb_core.proofs.state.Core.unanswered.Goals as goal
use Rattle.std.proofs.Math.Nat.{le_trans}

pub loop-place-preserved : goal.loop-place-preserved
loop-place-preserved g c = record {
  room = le_trans {n = vec_capacity c.args.into.now} {m = vec_capacity c.loop-place.into} {k = vec_capacity c.put_left.new.into} c.loop-place.invariant.room c.put_left.ensures.room;
  few = one_longer (length c.loop-place.into.items) (length c.put_left.new.into.items) (length c.args.into.now.items) c.loop-place.place c.loop-place.invariant.few c.put_left.ensures.few;
  put = λ m shows kept.
      put_step (g.D.Device.model (core_disk c.args.self.now)) (core_seen c.args.self.now) m c.as_slice-line-items.result.now c.loop-place.place c.line-item.result c.args.into.now.items c.loop-place.into.items c.put_left.new.into.items
      shows c.as_slice-line-items.ensures c.loop-place-test.true c.line-item.is (c.put_left.ensures.put m shows kept) (c.loop-place.invariant.put m shows kept);
}

pub returns : goal.returns
returns g c = λ m shows kept.
    put_all (g.D.Device.model (core_disk c.args.self.now)) (core_seen c.args.self.now) m c.as_slice-line-items.result.now c.loop-place.place c.args.into.now.items c.loop-place.into.items
    shows c.as_slice-line-items.ensures c.loop-place-test.false (c.loop-place.invariant.put m shows kept)
