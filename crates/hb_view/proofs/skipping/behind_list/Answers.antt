use Rattle.hb_page_codec.specs.ReadingFields.{records_at}
use Rattle.hb_view.specs.Behind.{behind}
use Rattle.hb_view.proofs.Skipped.{goes_on, stops, is_done}
use Rattle.hb_view.proofs.skipping.behind_list.Goals as goal

pub returns-in_err-rest : goal.returns-in_err-rest
returns-in_err-rest c =
    rw c.from_residual.ensures (stops c.args.k.number c.args.count c.loop.counter c.loop.rest.now (behind (records_at c.args.k.number c.args.count c.args.bytes.now)) c.loop-test.true c.in_err-rest.ensures c.loop.invariant)

pub loop-preserved : goal.loop-preserved
loop-preserved c =
    goes_on c.args.k.number c.args.count c.loop.counter c.loop.rest.now c.in_ok-rest.rest.now (behind (records_at c.args.k.number c.args.count c.args.bytes.now)) c.loop-test.true c.in_ok-rest.ensures c.loop.invariant

pub returns : goal.returns
returns c = is_done c.args.k.number c.args.count c.loop.counter c.loop.rest.now (behind (records_at c.args.k.number c.args.count c.args.bytes.now)) c.loop-test.false c.loop.invariant
