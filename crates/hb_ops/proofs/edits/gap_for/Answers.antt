use Rattle.std.proofs.Common.{arith}
use Rattle.hb_ops.proofs.Facts.Opened.{gap_found, no_room, open_by_put, rising_at, taken, weighs_little}
use Rattle.hb_ops.proofs.edits.gap_for.Goals as goal

pub place_of-requires : goal.place_of-requires
place_of-requires c =
    let opened = c.in-Some.ensures in
    rw c.as_slice.ensures (rising_at c.args.page.now c.args.rec.now.key c.in-Some.records.now opened.area opened.made.in_order opened.leaf)

pub weight_with_one_more-requires : goal.weight_with_one_more-requires
weight_with_one_more-requires c = omega (arith, weighs_little c.args.meta.now c.args.page.now c.args.rec.now.key c.in-Some.records.now c.in-Some.ensures)

pub returns-in-None : goal.returns-in-None
returns-in-None c = λ fits. c.in-None.ensures fits.absent.records (open_by_put c.args.meta.now c.args.page.now c.args.rec.now fits)

pub returns-in-Ok : goal.returns-in-Ok
returns-in-Ok c = taken c.args.meta.now c.args.page.now c.args.rec.now c.in-Some.records.now c.in-Ok.field-0 c.in-Some.ensures (rw c.as_slice.ensures at c.in-Ok.ensures.found)

pub returns-then-weight_with_one_more-from : goal.returns-then-weight_with_one_more-from
returns-then-weight_with_one_more-from c =
    gap_found c.args.meta.now c.args.page.now c.args.rec.now c.in-Some.records.now c.in-Err.place c.in-Some.ensures (rw c.as_slice.ensures at c.in-Err.ensures.absent)
    (omega (arith, c.if-weight_with_one_more-from.true, c.weight_with_one_more.ensures, c.from.ensures))

pub returns-else-weight_with_one_more-from : goal.returns-else-weight_with_one_more-from
returns-else-weight_with_one_more-from c =
    no_room c.args.meta.now c.args.page.now c.args.rec.now c.in-Some.records.now c.in-Err.place c.in-Some.ensures (rw c.as_slice.ensures at c.in-Err.ensures.absent)
    (omega (arith, c.if-weight_with_one_more-from.false, c.weight_with_one_more.ensures, c.from.ensures))
