use Rattle.hb_view.proofs.TakenWithin.{point_not_missing}
use Rattle.hb_view.proofs.gathering.record_of.Goals as goal

pub unreachable-requires : goal.unreachable-requires
unreachable-requires c = point_not_missing c.args.k.number c.args.bytes.now c.requires.room c.in-None.ensures.reads
