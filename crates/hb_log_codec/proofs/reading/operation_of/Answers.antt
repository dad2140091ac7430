use Rattle.std.proofs.Common.{arith}
use Rattle.hb_log_codec.proofs.GroupReads.{op_found}
use Rattle.hb_log_codec.proofs.reading.operation_of.Goals as goal

pub returns : goal.returns
returns c = op_found c.fields_are_exact.ensures _ c.args.k.number c.args.k.allowed.some c.args.k.allowed.few c.args.bytes.now c.op_of.result (λ i. omega (arith, c.type_inv.bytes i)) c.op_of.ensures
