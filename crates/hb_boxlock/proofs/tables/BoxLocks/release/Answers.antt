use Rattle.std.proofs.Common.{arith}
use Rattle.hb_boxlock.proofs.Places.{set_none}
use Rattle.hb_boxlock.proofs.tables.BoxLocks.release.Goals as goal

pub returns : goal.returns
returns c = rw (← c.self.view_is) (set_none c.self.inside.places c.place_of.result c.args.actor c.place_of.ensures.place (omega (arith, c.self.invariant, c.place_of.ensures.few)))
