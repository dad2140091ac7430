use Rattle.std.proofs.Common.{◌∷◌, [], List, ℕ, Some, length, length-append, sym, ap, ◌∙◌, arith}
use Rattle.hb_page_codec.specs.Reading.{number_at}
use Rattle.hb_page_codec.specs.ReadingFields.{point_at}
use Rattle.hb_page_codec.proofs.Facts.LoopLaws.{goes_on, stops, is_done}
use Rattle.hb_page_codec.proofs.records.point_of.Goals as goal

pub returns-in_err-value-clause-reads : goal.returns-in_err-value-clause-reads
returns-in_err-value-clause-reads c =
    rw c.from_residual.ensures (stops (number_at 8) c.loop.values.items c.args.k.number c.loop.counter c.loop.rest.now (point_at c.args.k.number c.args.bytes.now) c.loop-test.true c.in_err-value.ensures c.loop.invariant.read)

pub loop-preserved : goal.loop-preserved
loop-preserved c =
    let value = c.in_ok-value.value in
    rw c.push.ensures.items (record {
      count = length-append c.loop.values.items (value ∷ []) ∙ omega (arith, c.loop.invariant.count);
      read = goes_on (number_at 8) c.loop.values.items c.args.k.number c.loop.counter c.loop.rest.now value c.in_ok-value.after.now (point_at c.args.k.number c.args.bytes.now) c.loop-test.true c.in_ok-value.ensures c.loop.invariant.read;
    })

pub returns-clause-reads : goal.returns-clause-reads
returns-clause-reads c =
    let rest = c.loop.rest.now in
    is_done (number_at 8) c.loop.values.items c.args.k.number c.loop.counter rest (point_at c.args.k.number c.args.bytes.now) c.loop-test.false c.loop.invariant.read
    ∙ ap (λ (v : List ℕ). Some (v, rest)) (sym (c.new.ensures ∙ c.as_slice.ensures.value))

pub returns-clause-count : goal.returns-clause-count
returns-clause-count c =
    ap length (c.new.ensures ∙ c.as_slice.ensures.value) ∙ c.loop.invariant.count ∙ omega (arith, c.loop.auto.counter-end, c.loop-test.false)
