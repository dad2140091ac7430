use Rattle.hb_ops.proofs.Made.{changes_make_well}
use Rattle.hb_ops.proofs.laws.changed_pages_are_well_made.Goals as goal

pub returns : goal.returns
returns c = changes_make_well
    (record { leaves = c.parts_are_stretches.ensures.leaves; weight = c.parts_are_stretches.ensures.weight })
    (record { no_alike = c.normal_says_the_same.ensures.normal; same = c.normal_says_the_same.ensures.same })
