use Rattle.std.proofs.Common.{refl}
use Rattle.hb_view.proofs.Cornered.{same_values}
use Rattle.hb_view.proofs.corners.is_point.Goals as goal

pub returns : goal.returns
returns c = (λ t. same_values c.args.k.number c.loop-axis.axis c.args.bytes.now c.args.p.now c.requires.attributes c.requires.room c.loop-axis-test.false c.loop-axis.invariant, λ same. refl)
