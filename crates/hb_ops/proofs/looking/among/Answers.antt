use Rattle.hb_ops.proofs.Facts.Places.{gap_lacks}
use Rattle.hb_ops.proofs.looking.among.Goals as goal

pub returns-in-Err : goal.returns-in-Err
returns-in-Err c = gap_lacks c.args.records.now c.args.point.now c.in-Err.field-0 c.in-Err.ensures.absent
