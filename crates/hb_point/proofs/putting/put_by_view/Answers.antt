use Rattle.hb_point.proofs.AskedRows.{inserts_some, puts_by_view, puts_can_hold}
use Rattle.hb_point.proofs.putting.put_by_view.Goals as goal

pub inserted-requires : goal.inserted-requires
inserted-requires c = inserts_some c.args.view.now c.args.line c.requires

pub holds_itself-here-requires : goal.holds_itself-here-requires
holds_itself-here-requires c = puts_can_hold c.args.view.now c.args.line c.inserted.result.now c.requires c.inserted.ensures

pub put_into-requires : goal.put_into-requires
put_into-requires c = inserts_some c.args.view.now c.args.line c.requires

pub returns : goal.returns
returns c = puts_by_view c.args.view.now c.args.line c.inserted.result.now c.args.source c.args.fresh c.half_of.result c.holds_itself-here.result c.put_into.result c.requires c.inserted.ensures c.holds_itself-here.ensures c.half_of.ensures.here c.half_of.ensures.away c.put_into.ensures
