use Rattle.hb_pool.proofs.Facts.Front.{number_in_range, number_there, place_in_range, touched}
use Rattle.hb_pool.proofs.order.Order.touch.Goals as goal

pub bounds-slots-place : goal.bounds-slots-place
bounds-slots-place c = number_in_range c.args.id c.args.self.now c.slots.result.now c.place-place.result c.slots.ensures c.place-place.ensures c.requires

pub to_end-requires : goal.to_end-requires
to_end-requires c = place_in_range c.args.id c.args.self.now c.place-place.result c.place-place.ensures c.requires

pub returns-clause-last : goal.returns-clause-last
returns-clause-last c = touched c.args.id c.args.self.now c.to_end.new.self c.place-place.result c.place-place.ensures c.requires c.to_end.ensures

pub returns-clause-slot : goal.returns-clause-slot
returns-clause-slot c = number_there c.args.id c.args.self.now c.slots.result.now c.place-place.result c.slots.ensures c.place-place.ensures c.requires
