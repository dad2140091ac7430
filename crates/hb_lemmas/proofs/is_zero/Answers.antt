use Rattle.hb_lemmas.proofs.ZeroBytes.{zeros_so_far}
use Rattle.hb_lemmas.proofs.is_zero.Goals as goal

pub loop-byte-preserved : goal.loop-byte-preserved
loop-byte-preserved c = zeros_so_far c.args.bytes.now c.loop-byte.byte-index c.loop-byte.any c.loop-byte-test.true c.loop-byte.invariant
