use Rattle.std.proofs.Common.{arith}
use Rattle.hb_view.proofs.Headed.{first_tells, some_long}
use Rattle.hb_view.proofs.heads.are_live.Goals as goal

pub bounds-bytes-0 : goal.bounds-bytes-0
bounds-bytes-0 c = omega (arith, some_long c.args.bytes.now c.requires)

pub returns : goal.returns
returns c = first_tells c.args.bytes.now (λ i. omega (arith, c.type_inv.bytes i)) c.requires
