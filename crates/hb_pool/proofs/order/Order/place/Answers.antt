use Rattle.hb_pool.proofs.Facts.Front.{stands_there}
use Rattle.hb_pool.proofs.order.Order.place.Goals as goal

pub returns-in-Some : goal.returns-in-Some
returns-in-Some c = stands_there c.args.id c.args.self.now c.ids.result.now c.in-Some.place (c.ids.ensures.once c.args.id) c.ids.ensures.value c.in-Some.ensures
