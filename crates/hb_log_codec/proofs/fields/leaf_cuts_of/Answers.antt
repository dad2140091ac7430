use Rattle.std.proofs.lemmas.Result.{err_from_is_err_and}
use Rattle.hb_page_codec.specs.Reading.{many_at}
use Rattle.hb_log_codec.specs.Fields.{leaf_cut_at}
use Rattle.hb_log_codec.proofs.Loops.{stops_for}
use Rattle.hb_page_codec.proofs.Facts.LoopLaws.{goes_on, is_done, starts}
use Rattle.hb_log_codec.proofs.fields.leaf_cuts_of.Goals as goal

pub loop-init : goal.loop-init
loop-init c = rw c.new-cuts.ensures.items (starts leaf_cut_at c.args.count c.args.bytes.now)

pub returns-in_err-cut : goal.returns-in_err-cut
returns-in_err-cut c =
    let p = err_from_is_err_and c.from_residual.result c.from_residual.ensures.1 in
    rw (p.1, p.2) (stops_for leaf_cut_at c.loop.cuts.items c.args.count c.loop.counter c.loop.rest.now (many_at leaf_cut_at c.args.count c.args.bytes.now) c.in_err-cut.field-0.0 c.loop-test.true c.in_err-cut.ensures c.loop.invariant)

pub loop-preserved : goal.loop-preserved
loop-preserved c =
    rw c.in_ok-push.ensures.ok (goes_on leaf_cut_at c.loop.cuts.items c.args.count c.loop.counter c.loop.rest.now c.in_ok-cut.cut c.in_ok-cut.after.now (many_at leaf_cut_at c.args.count c.args.bytes.now) c.loop-test.true c.in_ok-cut.ensures c.loop.invariant)

pub returns : goal.returns
returns c = is_done leaf_cut_at c.loop.cuts.items c.args.count c.loop.counter c.loop.rest.now (many_at leaf_cut_at c.args.count c.args.bytes.now) c.loop-test.false c.loop.invariant
