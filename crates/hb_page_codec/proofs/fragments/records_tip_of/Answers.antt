use Rattle.std.proofs.Common.{◌<◌}
use Rattle.std.proofs.lemmas.Result.{err_from_is_err_and}
use Rattle.hb_page_codec.specs.Memory.{IsSomeCount}
use Rattle.hb_page_codec.specs.ReadingFields.{count_at}
use Rattle.hb_page_codec.proofs.Facts.Refusals.{read_some}
use Rattle.hb_page_codec.proofs.Decoded.{wants_then, some_count}
use Rattle.hb_page_codec.proofs.fragments.records_tip_of.Goals as goal

pub returns-in_err-records-clause-memory : goal.returns-in_err-records-clause-memory
returns-in_err-records-clause-memory c =
    let p = err_from_is_err_and c.from_residual-in_err-records.result c.from_residual-in_err-records.ensures.1 in
    let bytes = c.args.bytes.now in
    let count = c.in_ok-count.count in
    let read = read_some _ c.count_of.result (count, c.in_ok-count.rest) (count_at c.args.k.number bytes) c.in_ok-count.ensures.ok_part c.count_of.ensures in
    rw (p.1, p.2) (wants_then c.in_err-records.field-0.0 (0 < count) (IsSomeCount bytes) c.in_err-records.ensures.memory (some_count c.args.k.number bytes count c.in_ok-count.rest.now read))
