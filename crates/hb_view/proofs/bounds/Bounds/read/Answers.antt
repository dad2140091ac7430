use Rattle.std.proofs.Common.{List, length, ap, ◌∙◌, arith}
use Rattle.hb_space.specs.Boxes.{Area}
use Rattle.hb_page_codec.proofs.Facts.Fields.{area_takes}
use Rattle.hb_view.specs.Corners.{point_there}
use Rattle.hb_view.proofs.Cornered.{box_read, point_count, point_shorter}
use Rattle.hb_view.proofs.bounds.Bounds.read.Goals as goal

pub invariant_of-bounds : goal.invariant_of-bounds
invariant_of-bounds c =
    let k = c.args.k.number in
    let read = box_read k c.args.bytes.now (point_there k c.in_ok-lo.lo.now) (point_there k c.in_ok-hi.hi.now) c.in_ok-lo.middle.now c.in_ok-hi.rest.now c.is_ordered.result c.in_ok-lo.ensures.reads c.in_ok-hi.ensures.reads c.is_ordered.ensures c.if-not-is_ordered.false in
    let area : Area = record { lo = point_there k c.in_ok-lo.lo.now; hi = point_there k c.in_ok-hi.hi.now } in
    let is_area = (area_takes k c.args.bytes.now (area, c.in_ok-hi.rest.now) c.args.k.allowed.some c.args.k.allowed.few (λ i. omega (arith, c.type_inv.bytes i)) read).2 in
    rw (c.corner_at.ensures, c.corner_at-2.ensures) is_area

pub returns-clause-same : goal.returns-clause-same
returns-clause-same c = ap (λ (l : List _). length l) c.corner_at.ensures ∙ point_count c.args.k.number c.in_ok-lo.lo.now c.in_ok-lo.ensures.room

pub returns-clause-shorter : goal.returns-clause-shorter
returns-clause-shorter c =
    let k = c.args.k.number in
    omega (arith, point_shorter k c.args.bytes.now (point_there k c.in_ok-lo.lo.now, c.in_ok-lo.middle.now) c.in_ok-lo.ensures.reads, point_shorter k c.in_ok-lo.middle.now (point_there k c.in_ok-hi.hi.now, c.in_ok-hi.rest.now) c.in_ok-hi.ensures.reads)
