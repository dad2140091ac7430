use Rattle.std.proofs.Common.{None, sym, ap, ◌∙◌, arith}
use Rattle.std.proofs.lemmas.List.{get_or_default}
use Rattle.hb_boxlock.specs.Locking.{LockTable, lock_at}
use Rattle.hb_boxlock.proofs.Places.{of_actor}
use Rattle.hb_boxlock.proofs.tables.BoxLocks.lock_of.Goals as goal

pub returns-in-Some : goal.returns-in-Some
returns-in-Some c = sym (ap (λ (t : LockTable). lock_at t c.args.actor) (sym c.self.view_is) ∙ of_actor c.self.inside.places c.place_of.result c.args.actor c.place_of.ensures.place ∙ get_or_default c.self.inside.places c.place_of.result None c.index-self-place_of.result (omega (arith, c.self.invariant, c.place_of.ensures.few)) ∙ c.in-Some.is)

pub returns-in-None : goal.returns-in-None
returns-in-None c = sym (ap (λ (t : LockTable). lock_at t c.args.actor) (sym c.self.view_is) ∙ of_actor c.self.inside.places c.place_of.result c.args.actor c.place_of.ensures.place ∙ get_or_default c.self.inside.places c.place_of.result None c.index-self-place_of.result (omega (arith, c.self.invariant, c.place_of.ensures.few)) ∙ c.in-None.is)
