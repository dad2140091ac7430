use Rattle.hb_ops.proofs.Facts.Opened.{missing, open_by_del, place_found, rising_at}
use Rattle.hb_ops.proofs.edits.place_in.Goals as goal

pub place_of-requires : goal.place_of-requires
place_of-requires c =
    let opened = c.in-Some.ensures in
    rw c.as_slice.ensures (rising_at c.args.page.now c.args.point.now c.in-Some.records.now opened.area opened.made.in_order opened.leaf)

pub returns-in-None : goal.returns-in-None
returns-in-None c = λ fits. c.in-None.ensures fits.there.records (open_by_del c.args.meta.now c.args.page.now c.args.point.now fits)

pub returns-in-Ok : goal.returns-in-Ok
returns-in-Ok c = place_found c.args.meta.now c.args.page.now c.args.point.now c.in-Some.records.now c.in-Ok.place c.in-Some.ensures (rw c.as_slice.ensures at c.in-Ok.ensures.found)

pub returns-in-Err : goal.returns-in-Err
returns-in-Err c = missing c.args.meta.now c.args.page.now c.args.point.now c.in-Some.records.now c.in-Err.field-0 c.in-Some.ensures (rw c.as_slice.ensures at c.in-Err.ensures.absent)
