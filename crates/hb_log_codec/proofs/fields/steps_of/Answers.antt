use Rattle.std.proofs.lemmas.Result.{err_from_is_err_and}
use Rattle.hb_page_codec.specs.Reading.{many_at}
use Rattle.hb_log_codec.specs.Fields.{side_at}
use Rattle.hb_log_codec.proofs.Loops.{stops_for}
use Rattle.hb_page_codec.proofs.Facts.LoopLaws.{goes_on, is_done, starts}
use Rattle.hb_log_codec.proofs.fields.steps_of.Goals as goal

pub loop-init : goal.loop-init
loop-init c = rw c.new-steps.ensures.items (starts side_at c.args.count c.args.bytes.now)

pub returns-in_err-side : goal.returns-in_err-side
returns-in_err-side c =
    let p = err_from_is_err_and c.from_residual.result c.from_residual.ensures.1 in
    rw (p.1, p.2) (stops_for side_at c.loop.steps.items c.args.count c.loop.counter c.loop.rest.now (many_at side_at c.args.count c.args.bytes.now) c.in_err-side.field-0.0 c.loop-test.true c.in_err-side.ensures c.loop.invariant)

pub loop-preserved : goal.loop-preserved
loop-preserved c =
    rw c.in_ok-push.ensures.ok (goes_on side_at c.loop.steps.items c.args.count c.loop.counter c.loop.rest.now c.in_ok-side.side c.in_ok-side.after.now (many_at side_at c.args.count c.args.bytes.now) c.loop-test.true c.in_ok-side.ensures c.loop.invariant)

pub returns : goal.returns
returns c = is_done side_at c.loop.steps.items c.args.count c.loop.counter c.loop.rest.now (many_at side_at c.args.count c.args.bytes.now) c.loop-test.false c.loop.invariant
