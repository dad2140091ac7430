use Rattle.std.proofs.Common.{sym, arith}
use Rattle.hb_view.proofs.Cornered.{are_in_order, arent_in_order}
use Rattle.hb_view.proofs.corners.is_ordered.Goals as goal

pub returns-then-value_at : goal.returns-then-value_at
returns-then-value_at c =
    sym (arent_in_order c.args.k.number c.loop-axis.axis c.args.lo.now c.args.hi.now c.requires.lo c.requires.hi (omega (arith, c.loop-axis-test.true, c.from-axis-end.ensures))
    (omega (arith, c.if-value_at.true, c.value_at.ensures, c.value_at-in-loop-axis.ensures)))

pub returns : goal.returns
returns c = sym (are_in_order c.args.k.number c.loop-axis.axis c.args.lo.now c.args.hi.now c.requires.lo c.requires.hi (omega (arith, c.loop-axis-test.false, c.from-axis-end.ensures)) c.loop-axis.invariant)
