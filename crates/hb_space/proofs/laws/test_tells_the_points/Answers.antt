use Rattle.hb_space.proofs.Facts.Boxes.{Holds-from_test, test-from_Holds}
use Rattle.hb_space.proofs.laws.test_tells_the_points.Goals as goal

pub returns : goal.returns
returns c = λ a p h e. (Holds-from_test a p, test-from_Holds a p h)
