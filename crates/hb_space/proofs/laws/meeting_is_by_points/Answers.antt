use Rattle.hb_space.proofs.Facts.Boxes.{meets_by_points}
use Rattle.hb_space.proofs.laws.meeting_is_by_points.Goals as goal

pub returns : goal.returns
returns c = λ a b ha hb e. meets_by_points a b ha hb e
