use Rattle.hb_space.proofs.Facts.Boxes.{IsArea-common_area, Holds-common_area, Within-common_area}
use Rattle.hb_space.proofs.laws.common_box_is_a_box.Goals as goal

pub returns-clause-area : goal.returns-clause-area
returns-clause-area c = λ a b ha hb e m. IsArea-common_area a b ha hb e m

pub returns-clause-points : goal.returns-clause-points
returns-clause-points c = λ a b p ha hb e. Holds-common_area a b p ha hb e

pub returns-clause-within : goal.returns-clause-within
returns-clause-within c = λ a b ha hb e m. Within-common_area a b ha hb e m
