use Rattle.std.proofs.Common.{List, ℕ, Ok, Err, subst}
use Rattle.hb_outside.specs.Calls.{Puts}
use Rattle.hb_outside.specs.declared.traits.Failed.{Failed}
use Rattle.hb_outside.proofs.Facts.PutLaws.{Puts-longer, Puts-then}
use Rattle.hb_text.specs.Output.{record_text}
use Rattle.hb_text.proofs.Facts.OutputLaws.{flat_map-at, flat_map-next}
use Rattle.hb_text.proofs.output.put_records.Goals as goal

-- the lines of the records before, and a front of this one's
pub returns-in_err-put_record : goal.returns-in_err-put_record
returns-in_err-put_record g c =
    Puts-longer _ _ _ _ _ _ c.from_residual.ensures.0 (flat_map-at record_text c.args.records.now c.loop-record.record-index c.record-item.result c.loop-record-test.true c.record-item.is)
    (Puts-then (Err c.in_err-put_record.field-0.0) _ _ _ _ _ c.loop-record.invariant c.in_err-put_record.ensures)

pub loop-record-preserved : goal.loop-record-preserved
loop-record-preserved g c =
    subst (λ (text : List ℕ). Puts {E = Failed} text (Ok (tt {0})) (g.K.Sink.model c.args.sink.now) (g.K.Sink.model c.put_record.new.sink))
    (flat_map-next record_text c.args.records.now c.loop-record.record-index c.record-item.result c.loop-record-test.true c.record-item.is)
    (Puts-then (Ok (tt {0})) _ _ _ _ _ c.loop-record.invariant c.in_ok-put_record.ensures)
