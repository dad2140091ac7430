use Rattle.std.proofs.Common.{refl}
use Rattle.hb_frag.specs.declared.leaves.Leaf.TheVariants.{Child}
use Rattle.hb_sound.proofs.RestSteps.{records_more}
use Rattle.hb_sound.proofs.rests.add_child.Goals as goal

pub returns-else-not-sees_below : goal.returns-else-not-sees_below
returns-else-not-sees_below c before is =
    records_more c.args.facts.now c.args.level before (Child c.args.name) c.args.corners.now c.args.rest.now refl
    (record { below = c.sees_below.ensures.0 c.if-not-sees_below.false }) is
