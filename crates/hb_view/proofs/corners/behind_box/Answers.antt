use Rattle.hb_view.specs.Corners.{point_there}
use Rattle.hb_view.proofs.Cornered.{box_behind, box_disordered, box_without_hi, box_without_lo}
use Rattle.hb_view.proofs.corners.behind_box.Goals as goal

pub returns-in_err-lo : goal.returns-in_err-lo
returns-in_err-lo c = rw c.from_residual.ensures (box_without_lo c.args.k.number c.args.bytes.now c.in_err-lo.ensures.reads)

pub returns-in_err-hi : goal.returns-in_err-hi
returns-in_err-hi c = rw c.from_residual-in_err-hi.ensures (box_without_hi c.args.k.number c.args.bytes.now (point_there c.args.k.number c.in_ok-lo.lo.now) c.in_ok-lo.rest.now c.in_ok-lo.ensures.reads c.in_err-hi.ensures.reads)

pub returns-then-is_ordered : goal.returns-then-is_ordered
returns-then-is_ordered c =
    box_behind c.args.k.number c.args.bytes.now (point_there c.args.k.number c.in_ok-lo.lo.now) (point_there c.args.k.number c.in_ok-hi.hi.now) c.in_ok-lo.rest.now c.in_ok-hi.rest.now c.is_ordered.result
    c.in_ok-lo.ensures.reads c.in_ok-hi.ensures.reads c.is_ordered.ensures c.if-is_ordered.true

pub returns-else-is_ordered : goal.returns-else-is_ordered
returns-else-is_ordered c =
    box_disordered c.args.k.number c.args.bytes.now (point_there c.args.k.number c.in_ok-lo.lo.now) (point_there c.args.k.number c.in_ok-hi.hi.now) c.in_ok-lo.rest.now c.in_ok-hi.rest.now c.is_ordered.result
    c.in_ok-lo.ensures.reads c.in_ok-hi.ensures.reads c.is_ordered.ensures c.if-is_ordered.false
