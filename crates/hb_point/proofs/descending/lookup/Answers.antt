use Rattle.std.proofs.Common.{refl}
use Rattle.hb_point.proofs.DescendedRows.{finds_body, misses}
use Rattle.hb_point.proofs.descending.lookup.Goals as goal

pub returns-in-Some : goal.returns-in-Some
returns-in-Some c = λ session id. finds_body c.args.view.now c.args.meta.now c.args.number session id c.takes_effect.result c.args.point.now c.in-Some.body.now _ refl c.in-Some.ensures.stands (rw c.new.ensures at c.takes_effect.ensures)

pub returns-in-None : goal.returns-in-None
returns-in-None c = λ session id. misses c.args.view.now c.args.meta.now c.args.number session id c.takes_effect-in-None.result c.args.point.now _ refl c.in-None.ensures.stands c.takes_effect-in-None.ensures
