use Rattle.hb_pool.proofs.Facts.Front.{number_in_range, number_there}
use Rattle.hb_pool.proofs.order.Order.lies_in.Goals as goal

pub bounds-slots-place : goal.bounds-slots-place
bounds-slots-place c = number_in_range c.args.id c.args.self.now c.slots.result.now c.place.result c.slots.ensures c.place.ensures c.requires

pub returns : goal.returns
returns c = number_there c.args.id c.args.self.now c.slots.result.now c.place.result c.slots.ensures c.place.ensures c.requires
