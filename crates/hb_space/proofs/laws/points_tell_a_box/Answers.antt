use Rattle.hb_space.proofs.Facts.Boxes.{same_from_points}
use Rattle.hb_space.proofs.laws.points_tell_a_box.Goals as goal

pub returns : goal.returns
returns c = λ a b ha hb points. same_from_points a b ha hb points
