use Rattle.hb_store.proofs.OneFile.{one_file, no_bad_frame}
use Rattle.hb_store.proofs.image_laws.an_image_opens_to_one_file.Goals as goal

pub returns-clause-one : goal.returns-clause-one
returns-clause-one c = one_file c.spelling_law.ensures.one_page c.groups_are_read_in_one_way.ensures.list c.one_superblock_is_newest.ensures.turn c.one_superblock_is_newest.ensures.said c.an_area_is_read_in_one_way.ensures

pub returns-clause-whole : goal.returns-clause-whole
returns-clause-whole c = no_bad_frame c.spelling_law.ensures.one_page c.groups_are_read_in_one_way.ensures.list c.one_superblock_is_newest.ensures.turn c.one_superblock_is_newest.ensures.said
