use Rattle.hb_sound.specs.Facts.{next_at}
use Rattle.hb_sound.proofs.Flagged.{less_unflagged, walk_on}
use Rattle.hb_sound.proofs.chains.walk.Goals as goal

pub loop-next-smaller : goal.loop-next-smaller
loop-next-smaller c = less_unflagged c.loop-next.chained c.loop-next.id c.in-Some.ensures.1

pub loop-next-preserved : goal.loop-next-preserved
loop-next-preserved c =
    walk_on (next_at c.args.facts.now) c.args.head c.loop-next.id c.in-Some.next c.loop-next.chained c.loop-next.invariant c.in-Some.ensures.0 c.in-Some.ensures.1
