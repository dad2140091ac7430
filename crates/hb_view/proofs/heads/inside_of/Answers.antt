use Rattle.std.proofs.Common.{arith}
use Rattle.hb_view.proofs.Headed.{live_spelled, live_tells, live_room, has_parts}
use Rattle.hb_view.proofs.heads.inside_of.Goals as goal

pub from_place-corners-requires : goal.from_place-corners-requires
from_place-corners-requires c =
    let s = live_spelled c.args.bytes.now (λ i. omega (arith, c.type_inv.bytes i)) c.requires in
    omega (arith, s.long)

pub from_place-requires : goal.from_place-requires
from_place-requires c =
    let s = live_spelled c.args.bytes.now (λ i. omega (arith, c.type_inv.bytes i)) c.requires in
    omega (arith, live_room c.args.bytes.now s, c.from.ensures, c.attributes_of-k.ensures, s.fields.attributes)

pub invariant_of-tree : goal.invariant_of-tree
invariant_of-tree c =
    let s = live_spelled c.args.bytes.now (λ i. omega (arith, c.type_inv.bytes i)) c.requires in
    let has = has_parts c.args.bytes.now s c.attributes_of-k.result.number c.from.result c.from_place-corners.result.now c.from_place.result.now c.attributes_of-k.ensures c.from.ensures c.from_place-corners.ensures c.from_place.ensures in
    record { there = has.there }

pub invariant_of-result : goal.invariant_of-result
invariant_of-result c =
    let s = live_spelled c.args.bytes.now (λ i. omega (arith, c.type_inv.bytes i)) c.requires in
    let has = has_parts c.args.bytes.now s c.attributes_of-k.result.number c.from.result c.from_place-corners.result.now c.from_place.result.now c.attributes_of-k.ensures c.from.ensures c.from_place-corners.ensures c.from_place.ensures in
    record { room = has.room; is_area = has.is_area }

pub returns-clause-parts : goal.returns-clause-parts
returns-clause-parts c =
    let s = live_spelled c.args.bytes.now (λ i. omega (arith, c.type_inv.bytes i)) c.requires in
    let has = has_parts c.args.bytes.now s c.attributes_of-k.result.number c.from.result c.from_place-corners.result.now c.from_place.result.now c.attributes_of-k.ensures c.from.ensures c.from_place-corners.ensures c.from_place.ensures in
    live_tells c.args.bytes.now _ s (record { attributes = has.attributes; is_area = s.fields.is_area; area = has.area; tree = has.tree; light = s.light })
