use Rattle.hb_core.specs.Between.{said_of_flush}
use Rattle.hb_core.specs.CoreSeen.{core_seen, core_disk}
use Rattle.hb_tidy.proofs.CallsMade.{flush_drops, flush_looks}
use Rattle.hb_tidy.proofs.WorkerSteps.{flush_took}
use Rattle.hb_tidy.proofs.stepping.flush.Goals as goal

pub returns-clause-looks : goal.returns-clause-looks
returns-clause-looks g c =
    let d = g.D.Device.model (core_disk c.args.core.now) in
    let e = g.D.Device.model (core_disk c.help-flushed.new.self) in
    let old = core_seen c.args.core.now in
    let new = core_seen c.help-flushed.new.self in
    let told = c.help-flushed.ensures in
    let may = c.requires.may in
    let outcome = said_of_flush c.help-flushed.result in
    let took = flush_took d old outcome e new (g.met.D.Device.is_disk (core_disk c.args.core.now)) (g.met.D.Device.is_disk (core_disk c.help-flushed.new.self)) may told.steps told.touches told.counts c.requires.crowded in
    flush_looks d old outcome e new took may c.went_on.result c.went_on.ensures (may.laws.counts.flush old new told.counts may.counts) told.counts.no_op.meta (flush_drops c.help-flushed.result took.op)
