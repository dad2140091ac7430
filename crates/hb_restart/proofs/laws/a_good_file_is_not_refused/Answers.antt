use Rattle.hb_restart.proofs.NotRefused.{not_refused}
use Rattle.hb_restart.proofs.laws.a_good_file_is_not_refused.Goals as goal

pub returns : goal.returns
returns c = not_refused c.groups_are_read_in_one_way.ensures.list c.one_superblock_is_newest.ensures.turn c.one_superblock_is_newest.ensures.said c.an_area_is_read_in_one_way.ensures c.an_image_opens_to_one_file.ensures.one c.an_image_opens_to_one_file.ensures.whole
