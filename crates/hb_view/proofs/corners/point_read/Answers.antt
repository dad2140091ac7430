use Rattle.hb_view.proofs.Cornered.{is_read, isnt_read}
use Rattle.hb_view.proofs.corners.point_read.Goals as goal

pub returns-then-bytes-length-clause-reads : goal.returns-then-bytes-length-clause-reads
returns-then-bytes-length-clause-reads c = isnt_read c.args.k.number c.from-length.result c.args.bytes.now c.from-length.ensures c.if-bytes-length.true

pub returns-clause-reads : goal.returns-clause-reads
returns-clause-reads c = is_read c.args.k.number c.from-length.result c.args.bytes.now c.from_place.result.now c.from-length.ensures c.if-bytes-length.false c.from_place.ensures
