use Rattle.hb_space.proofs.Facts.Boxes.{side_cover}
use Rattle.hb_space.proofs.laws.sides_part_a_box.Goals as goal

pub returns-clause-cover : goal.returns-clause-cover
returns-clause-cover c = λ a axis value p h cuts. side_cover a axis value p h cuts
