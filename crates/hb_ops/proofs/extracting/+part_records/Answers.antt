use Rattle.std.proofs.Common.{◌↔◌, ◌+◌, ◌<◌, IsTrue, length, take, drop, filter, subst, arith}
use Rattle.hb_space.specs.Boxes.{Area}
use Rattle.hb_frag.specs.declared.leaves.Leaf.TheVariants.{Records}
use Rattle.hb_frag.specs.declared.paths.Side.TheVariants.{Left}
use Rattle.hb_frag.specs.Trees.{Tip}
use Rattle.hb_ops.specs.Cutting.{PartLeaves, goes_on}
use Rattle.hb_ops.proofs.CutTests.{one_more_cut}
use Rattle.hb_ops.proofs.extracting.+part_records.Goals as goal

pub returns : goal.returns
returns t c =
    let cuts = c.args.cuts.now in
    let place = c.args.place in
    let both = c.has_both_sides.ensures.0 c.if-not-has_both_sides.false in
    let lt : place < length cuts = grind (arith, c.requires, c.if-place-cuts.false) in
    let same = one_more_cut cuts place (record { axis = 0; value = 0; side = Left }) c.args.records.now c.args.area.now lt (c.cuts.ensures.0 c.if-not-cuts.false) both.0 both.1 in
    let rest = subst (λ (a : Area). IsTrue c.part_records.result ↔ PartLeaves (drop (place + 1) cuts) (Tip (Records (filter (goes_on (take (place + 1) cuts)) c.args.records.now))) a) c.half_area.ensures c.part_records.ensures in
    (λ yes. same.0 (rest.0 yes), λ h. rest.1 (same.1 h))
