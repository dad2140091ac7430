use Rattle.std.proofs.Common.{arith}
use Rattle.hb_boxlock.specs.Locking.{lock_on}
use Rattle.hb_boxlock.proofs.Places.{set_lock}
use Rattle.hb_boxlock.proofs.tables.BoxLocks.try_take.Goals as goal

pub returns-clause-taken : goal.returns-clause-taken
returns-clause-taken c = rw (← c.self.view_is) (set_lock c.self.inside.places c.place_of.result c.args.actor (lock_on c.args.area c.args.share) c.place_of.ensures.place (omega (arith, c.self.invariant, c.place_of.ensures.few)))
