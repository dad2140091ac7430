use Rattle.hb_map.proofs.OneBox.{one_box}
use Rattle.hb_map.proofs.boxes.each_point_has_one_box.Goals as goal

pub returns : goal.returns
returns c = one_box c.a_level_parts_the_space.ensures.some c.a_level_parts_the_space.ensures.alone c.each_page_has_a_box.ensures
