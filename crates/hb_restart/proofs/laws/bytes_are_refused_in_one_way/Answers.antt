use Rattle.hb_restart.proofs.OneRefusal.{refused_once}
use Rattle.hb_restart.proofs.laws.bytes_are_refused_in_one_way.Goals as goal

pub returns : goal.returns
returns c = λ bytes. refused_once c.groups_are_read_in_one_way.ensures.list c.one_superblock_is_newest.ensures.turn c.one_superblock_is_newest.ensures.said c.an_area_is_read_in_one_way.ensures c.an_image_opens_to_one_file.ensures.one c.one_rule_is_named.ensures bytes
