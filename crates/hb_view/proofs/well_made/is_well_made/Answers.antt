use Rattle.hb_view.specs.Limits.{meta_with}
use Rattle.hb_view.proofs.PassedOver.{made_by_zeros, never_made, wrong_length}
use Rattle.hb_view.proofs.well_made.is_well_made.Goals as goal

pub returns-then-bytes-ne-PAGE : goal.returns-then-bytes-ne-PAGE
returns-then-bytes-ne-PAGE c = let l = c.args.limits in wrong_length (meta_with l.k l.height l.dcap l.icap) c.args.bytes.now c.if-bytes-ne-PAGE.true

pub returns-in-Some : goal.returns-in-Some
returns-in-Some c = let l = c.args.limits in made_by_zeros (meta_with l.k l.height l.dcap l.icap) c.args.bytes.now c.in-Some.rest.now c.is_zero.result c.if-bytes-ne-PAGE.false c.in-Some.ensures c.is_zero.ensures

pub returns-in-None : goal.returns-in-None
returns-in-None c = let l = c.args.limits in never_made (meta_with l.k l.height l.dcap l.icap) c.args.bytes.now c.if-bytes-ne-PAGE.false c.in-None.ensures
