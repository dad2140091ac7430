use Rattle.std.proofs.Common.{◌<◌, length, arith}
use Rattle.hb_ops.proofs.CutTests.{from_first, not_cut}
use Rattle.hb_ops.proofs.extracting.part_leaves.Goals as goal

pub returns-in-None : goal.returns-in-None
returns-in-None c =
    let some : 0 < length c.args.cuts.now = grind (arith, c.is_empty.ensures, c.if-is_empty.false) in
    not_cut c.args.cuts.now c.args.frag.now c.args.area.now some c.in-None.ensures

pub returns-in-Some : goal.returns-in-Some
returns-in-Some c = from_first c.args.cuts.now c.args.frag.now c.in-Some.records.now c.args.area.now c.part_records.result c.in-Some.ensures c.part_records.ensures
