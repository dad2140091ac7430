use Rattle.std.proofs.Common.{arith}
use Rattle.hb_view.proofs.Headed.{free_spelled, is_next, has_next}
use Rattle.hb_view.proofs.heads.next_of.Goals as goal

pub from_place-requires : goal.from_place-requires
from_place-requires c =
    let s = free_spelled c.args.bytes.now c.requires.spelled c.requires.free in
    omega (arith, s.long)

pub unreachable-requires : goal.unreachable-requires
unreachable-requires c = has_next c.args.bytes.now c.from_place.result.now (free_spelled c.args.bytes.now c.requires.spelled c.requires.free) c.from_place.ensures c.in-None.ensures

pub returns : goal.returns
returns c = is_next c.args.bytes.now c.from_place.result.now (free_spelled c.args.bytes.now c.requires.spelled c.requires.free) _ c.from_place.ensures c.in-Some.ensures
