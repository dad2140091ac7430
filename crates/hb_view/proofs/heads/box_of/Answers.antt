use Rattle.std.proofs.Common.{arith}
use Rattle.hb_view.proofs.Headed.{live_spelled, live_tells, is_box, has_box}
use Rattle.hb_view.proofs.heads.box_of.Goals as goal

pub from_place-requires : goal.from_place-requires
from_place-requires c =
    let s = live_spelled c.args.bytes.now (λ i. omega (arith, c.type_inv.bytes i)) c.requires in
    omega (arith, s.long)

pub unreachable-requires : goal.unreachable-requires
unreachable-requires c =
    let s = live_spelled c.args.bytes.now (λ i. omega (arith, c.type_inv.bytes i)) c.requires in
    has_box c.args.bytes.now s _ c.from_place.result.now c.attributes_of.ensures c.from_place.ensures c.in-None.ensures

pub returns : goal.returns
returns c =
    let s = live_spelled c.args.bytes.now (λ i. omega (arith, c.type_inv.bytes i)) c.requires in
    live_tells c.args.bytes.now _ s (is_box c.args.bytes.now s _ c.from_place.result.now _ c.attributes_of.ensures c.from_place.ensures c.in-Some.ensures)
