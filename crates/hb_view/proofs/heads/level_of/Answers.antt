use Rattle.std.proofs.Common.{arith}
use Rattle.hb_view.proofs.Headed.{live_spelled, live_tells}
use Rattle.hb_view.proofs.heads.level_of.Goals as goal

pub bounds-bytes-1 : goal.bounds-bytes-1
bounds-bytes-1 c =
    let s = live_spelled c.args.bytes.now (λ i. omega (arith, c.type_inv.bytes i)) c.requires in
    omega (arith, s.long)

pub returns : goal.returns
returns c =
    let s = live_spelled c.args.bytes.now (λ i. omega (arith, c.type_inv.bytes i)) c.requires in
    live_tells c.args.bytes.now _ s s.fields.level
