use Rattle.std.proofs.Common.{false, refl}
use Rattle.hb_pool.specs.Pools.{brought}
use Rattle.hb_store.proofs.Holding.{absent_frame, hold_keeps, holds, place_there}
use Rattle.hb_store.proofs.memory.Memory.hold.Goals as goal

pub bring-requires-clause-absent : goal.bring-requires-clause-absent
bring-requires-clause-absent c =
    let m = c.self.inside in
    let is = c.self.invariant in
    absent_frame m.turn m.meta m.log m.in_log m.stopped m.pool (brought c.args.id c.args.bytes.now false m.pool) c.args.self.now c.args.id c.args.bytes.now c.self.view_is is.memory is.pool is.spelled refl c.requires.absent c.requires.place c.requires.page c.requires.good

pub bring-requires-clause-place : goal.bring-requires-clause-place
bring-requires-clause-place c =
    let m = c.self.inside in
    let is = c.self.invariant in
    place_there m.turn m.meta m.log m.in_log m.stopped m.pool (brought c.args.id c.args.bytes.now false m.pool) c.args.self.now c.args.id c.args.bytes.now c.self.view_is is.memory is.pool is.spelled refl c.requires.absent c.requires.place c.requires.page c.requires.good

pub invariant_of-self : goal.invariant_of-self
invariant_of-self c =
    let m = c.self.inside in
    let is = c.self.invariant in
    let k = hold_keeps m.turn m.meta m.log m.in_log m.stopped m.pool c.bring.new.self c.args.self.now c.args.id c.args.bytes.now c.self.view_is is.memory is.pool is.spelled c.bring.ensures c.requires.absent c.requires.place c.requires.page c.requires.good in
    record { memory = k.memory; pool = k.framed; spelled = k.spelled }

pub returns-clause-fetched : goal.returns-clause-fetched
returns-clause-fetched c =
    let m = c.self.inside in
    let is = c.self.invariant in
    (holds m.turn m.meta m.log m.in_log m.stopped m.pool c.bring.new.self c.args.self.now c.args.id c.args.bytes.now c.self.view_is is.memory is.pool is.spelled c.bring.ensures c.requires.absent c.requires.place c.requires.page c.requires.good).fetched

pub returns-clause-there : goal.returns-clause-there
returns-clause-there c =
    let m = c.self.inside in
    let is = c.self.invariant in
    (holds m.turn m.meta m.log m.in_log m.stopped m.pool c.bring.new.self c.args.self.now c.args.id c.args.bytes.now c.self.view_is is.memory is.pool is.spelled c.bring.ensures c.requires.absent c.requires.place c.requires.page c.requires.good).there

pub returns-clause-stays : goal.returns-clause-stays
returns-clause-stays c =
    let m = c.self.inside in
    let is = c.self.invariant in
    (holds m.turn m.meta m.log m.in_log m.stopped m.pool c.bring.new.self c.args.self.now c.args.id c.args.bytes.now c.self.view_is is.memory is.pool is.spelled c.bring.ensures c.requires.absent c.requires.place c.requires.page c.requires.good).stays

pub returns-clause-uses : goal.returns-clause-uses
returns-clause-uses c =
    let m = c.self.inside in
    let is = c.self.invariant in
    (holds m.turn m.meta m.log m.in_log m.stopped m.pool c.bring.new.self c.args.self.now c.args.id c.args.bytes.now c.self.view_is is.memory is.pool is.spelled c.bring.ensures c.requires.absent c.requires.place c.requires.page c.requires.good).uses
