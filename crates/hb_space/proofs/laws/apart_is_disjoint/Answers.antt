use Rattle.hb_space.proofs.Facts.Boxes.{disjoint_by_meeting}
use Rattle.hb_space.proofs.laws.apart_is_disjoint.Goals as goal

pub returns : goal.returns
returns c = λ a b ha hb e. disjoint_by_meeting a b ha hb e
