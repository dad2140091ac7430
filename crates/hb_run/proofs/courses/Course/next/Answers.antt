use Rattle.hb_run.proofs.courses.Course.next.Goals as goal

pub returns-in-Idle : goal.returns-in-Idle
returns-in-Idle g c = rw c.in-Idle.is (c.next_of_idle.ensures c.args.effects)

pub returns-in-Blocked : goal.returns-in-Blocked
returns-in-Blocked g c = rw c.in-Blocked.is (c.next_of_blocked.ensures c.args.seat.now.actor c.args.effects)

pub returns-in-More : goal.returns-in-More
returns-in-More g c = rw c.in-More.is (c.next_of_busy.ensures c.args.seat.now.actor)
