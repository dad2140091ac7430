-- The lines of the records before the index are put.
use Rattle.std.proofs.Common.{Ok, take}
use Rattle.std.specs.List.{flat_map}
use Rattle.hb_outside.specs.Calls.{Puts}
use Rattle.hb_outside.specs.declared.traits.Failed.{Failed}
use Rattle.hb_text.specs.Output.{record_text}
use Rattle.hb_text.proofs.output.put_records.Given as goal

abbrev pub invariant-loop-record : goal.invariant-loop-record
invariant-loop-record g l = Puts {E = Failed} (flat_map record_text (take l.record-index l.records)) (Ok (tt {0})) (g.K.Sink.model l.fn.sink) (g.K.Sink.model l.sink)
