use Rattle.hb_store.specs.Seen.{seen_as}
use Rattle.hb_store.proofs.Facts.StoreLaws.{StoreKeeps-opens, StoreKeeps-running, StoreKeeps-one}
use Rattle.hb_store.proofs.laws.an_image_of_a_store_opens.Goals as goal

pub returns-clause-either : goal.returns-clause-either
returns-clause-either g c = StoreKeeps-opens (g.D.Device.model c.args.store.now.disk) (seen_as c.args.store.now)

pub returns-clause-running : goal.returns-clause-running
returns-clause-running g c = λ going durable later keeps. StoreKeeps-running (g.D.Device.model c.args.store.now.disk) (seen_as c.args.store.now) durable later keeps going

pub returns-clause-count : goal.returns-clause-count
returns-clause-count g c = StoreKeeps-one (g.D.Device.model c.args.store.now.disk) (seen_as c.args.store.now)
