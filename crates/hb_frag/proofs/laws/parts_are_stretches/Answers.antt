use Rattle.hb_frag.proofs.Facts.Parts.{part_stretch, part_fits, part_weighs}
use Rattle.hb_frag.proofs.laws.parts_are_stretches.Goals as goal

pub returns-clause-leaves : goal.returns-clause-leaves
returns-clause-leaves c = part_stretch

pub returns-clause-cuts : goal.returns-clause-cuts
returns-clause-cuts c = part_fits

pub returns-clause-weight : goal.returns-clause-weight
returns-clause-weight c = part_weighs
