use Rattle.std.proofs.Common.{List, Some, sym, ap, ◌∙◌}
use Rattle.std.proofs.lemmas.Result.{err_from_is_err_and}
use Rattle.hb_space.specs.declared.records.Record.{Record}
use Rattle.hb_page_codec.specs.ReadingFields.{record_at, records_at}
use Rattle.hb_page_codec.proofs.Facts.LoopLaws.{goes_on, stops, is_done}
use Rattle.hb_page_codec.proofs.Facts.Refusals.{fails, read_some, read_none}
use Rattle.hb_page_codec.proofs.fragments.records_of.Goals as goal

pub returns-in_err-record-clause-gives : goal.returns-in_err-record-clause-gives
returns-in_err-record-clause-gives c =
    let p = err_from_is_err_and c.from_residual-in_err-record.result c.from_residual-in_err-record.ensures.1 in
    let all = records_at c.args.k.number c.args.count c.args.bytes.now in
    let none = read_none _ c.record_of.result (record_at c.args.k.number c.loop.rest.now) c.in_err-record.ensures.ok_part c.record_of.ensures in
    rw (p.1, p.2) (fails _ all (stops (record_at c.args.k.number) c.loop.records.items c.args.count c.loop.counter c.loop.rest.now all c.loop-test.true none c.loop.invariant))

pub loop-preserved : goal.loop-preserved
loop-preserved c =
    let r = c.in_ok-record.record in
    let after = c.in_ok-record.after.now in
    let some = read_some _ c.record_of.result (r, c.in_ok-record.after) (record_at c.args.k.number c.loop.rest.now) c.in_ok-record.ensures.ok_part c.record_of.ensures in
    rw c.in_ok-push.ensures.items (goes_on (record_at c.args.k.number) c.loop.records.items c.args.count c.loop.counter c.loop.rest.now r after (records_at c.args.k.number c.args.count c.args.bytes.now) c.loop-test.true some c.loop.invariant)

pub returns-clause-gives : goal.returns-clause-gives
returns-clause-gives c =
    let rest = c.loop.rest.now in
    is_done (record_at c.args.k.number) c.loop.records.items c.args.count c.loop.counter rest (records_at c.args.k.number c.args.count c.args.bytes.now) c.loop-test.false c.loop.invariant
    ∙ ap (λ (rs : List Record). Some (rs, rest)) (sym c.new.ensures)
