use Rattle.hb_point.proofs.AskedRows.{asked_put_by_view, inserts_into}
use Rattle.hb_point.proofs.deciding.put_in_half.Goals as goal

pub put_by_view-requires : goal.put_by_view-requires
put_by_view-requires c = inserts_into c.args.view.now c.args.state c.in-SessionPut.line c.in-SessionPut.source c.in-SessionPut.fresh c.in-SessionPut.is c.requires.asked

pub returns : goal.returns
returns c = record { row = asked_put_by_view c.args.view.now c.args.state c.put_by_view.result c.in-SessionPut.line c.in-SessionPut.source c.in-SessionPut.fresh c.in-SessionPut.is c.put_by_view.ensures }
