use Rattle.std.proofs.Common.{sym, subst, arith}
use Rattle.hb_space.specs.Points.{IsAttributeCount}
use Rattle.hb_view.proofs.Headed.{live_spelled}
use Rattle.hb_view.proofs.heads.attributes_of.Goals as goal

pub bounds-bytes-2 : goal.bounds-bytes-2
bounds-bytes-2 c =
    let s = live_spelled c.args.bytes.now (λ i. omega (arith, c.type_inv.bytes i)) c.requires in
    omega (arith, s.long)

pub invariant_of-result : goal.invariant_of-result
invariant_of-result c =
    let s = live_spelled c.args.bytes.now (λ i. omega (arith, c.type_inv.bytes i)) c.requires in
    record { allowed = subst IsAttributeCount (sym s.fields.attributes) s.fields.count }
