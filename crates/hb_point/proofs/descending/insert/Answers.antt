use Rattle.std.proofs.Common.{refl}
use Rattle.hb_point.proofs.DescendedRows.{finds_twin, joins_page}
use Rattle.hb_point.proofs.descending.insert.Goals as goal

pub has_room-room-requires-clause-absent : goal.has_room-room-requires-clause-absent
has_room-room-requires-clause-absent c = c.in-None.ensures.stands

pub returns-in-Some : goal.returns-in-Some
returns-in-Some c = finds_twin c.args.view.now c.args.meta.now c.args.number c.args.session c.args.id c.takes_effect.result c.args.rec _ _ refl c.in-Some.ensures.stands c.takes_effect.ensures

pub returns-in-None : goal.returns-in-None
returns-in-None c = joins_page c.args.view.now c.args.meta.now c.args.number c.args.session c.args.id c.joins.result c.args.rec c.has_room-room.result c.requires c.in-None.ensures.stands c.has_room-room.ensures c.joins.ensures.puts c.joins.ensures.splits
