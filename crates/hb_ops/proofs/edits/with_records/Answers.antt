use Rattle.hb_ops.proofs.Facts.Opened.{way_stays}
use Rattle.hb_ops.proofs.edits.with_records.Goals as goal

pub copy_with-requires : goal.copy_with-requires
copy_with-requires c = rw (c.in_ok-path.ensures.way) (way_stays c.args.point.now c.args.page.now.frag)
