use Rattle.std.proofs.Common.{refl}
use Rattle.hb_view.proofs.Followed.{box_holds}
use Rattle.hb_view.proofs.well_made.holds_there.Goals as goal

pub returns : goal.returns
returns c = (
  λ _. box_holds c.args.k.number c.loop-axis.axis c.args.bounds.now c.corners.result.0.now c.corners.result.1.now c.args.key.now c.requires.same c.requires.room c.corners.ensures.lo c.corners.ensures.hi c.loop-axis-test.false c.loop-axis.invariant,
  λ _. refl,
)
