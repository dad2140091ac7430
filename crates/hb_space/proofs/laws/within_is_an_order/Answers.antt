use Rattle.hb_space.proofs.Facts.Boxes.{same_from_within}
use Rattle.hb_space.proofs.laws.within_is_an_order.Goals as goal

pub returns-clause-antisymmetric : goal.returns-clause-antisymmetric
returns-clause-antisymmetric c = λ a b ha hb e v w. same_from_within a b ha hb e v w
