use Rattle.hb_sound.proofs.Partition.{pages_have_boxes}
use Rattle.hb_sound.proofs.laws.each_page_has_a_box.Goals as goal

pub returns : goal.returns
returns c = pages_have_boxes c.trees_and_space.ensures.trees c.trees_and_space.ensures.space
