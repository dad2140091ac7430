use Rattle.hb_store.specs.Seen.{seen_as}
use Rattle.hb_store.proofs.OneKept.{one_durable, one_later}
use Rattle.hb_store.proofs.laws.a_store_keeps_one_file.Goals as goal

pub returns-clause-durable : goal.returns-clause-durable
returns-clause-durable g c =
    one_durable c.spelling_law.ensures.one_page c.groups_are_read_in_one_way.ensures.list c.groups_are_read_in_one_way.ensures.group c.one_superblock_is_newest.ensures.turn c.one_superblock_is_newest.ensures.said c.an_area_is_read_in_one_way.ensures
    (g.D.Device.model c.args.store.now.disk) (g.met.D.Device.is_disk c.args.store.now.disk) (seen_as c.args.store.now)

pub returns-clause-later : goal.returns-clause-later
returns-clause-later g c =
    one_later c.spelling_law.ensures.one_page c.groups_are_read_in_one_way.ensures.list c.groups_are_read_in_one_way.ensures.group c.one_superblock_is_newest.ensures.turn c.one_superblock_is_newest.ensures.said c.an_area_is_read_in_one_way.ensures
    (g.D.Device.model c.args.store.now.disk) (g.met.D.Device.is_disk c.args.store.now.disk) (seen_as c.args.store.now)
