use Rattle.std.proofs.Common.{refl}
use Rattle.hb_sound.proofs.RestSteps.{records_more}
use Rattle.hb_sound.proofs.rests.add_leaf.Goals as goal

pub returns-in-Records : goal.returns-in-Records
returns-in-Records c before is =
    rw c.in-Records.is
    (records_more c.args.facts.now c.args.level before _ c.args.corners.now c.args.rest.now refl (record { below = tt }) is)

pub returns-in-Child : goal.returns-in-Child
returns-in-Child c before is = rw c.in-Child.is (c.add_child.ensures before is)

pub returns-in-Sibling : goal.returns-in-Sibling
returns-in-Sibling c before is = rw c.in-Sibling.is (c.add_sibling.ensures c.args.facts.now c.args.level before is)
