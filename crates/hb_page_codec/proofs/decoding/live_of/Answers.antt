use Rattle.std.proofs.Common.{◌∷◌, arith}
use Rattle.std.proofs.lemmas.Result.{err_from_is_err_and}
use Rattle.hb_page_codec.specs.Memory.{IsCutOrRecords, BeginsWithMany}
use Rattle.hb_page_codec.specs.ReadingPages.{head_at}
use Rattle.hb_page_codec.specs.ReadingFields.{area_at}
use Rattle.hb_page_codec.proofs.Facts.Refusals.{read_some}
use Rattle.hb_page_codec.proofs.Decoded.{wants_then, begins}
use Rattle.hb_page_codec.proofs.decoding.live_of.Goals as goal

pub returns-in_err-frag-clause-memory : goal.returns-in_err-frag-clause-memory
returns-in_err-frag-clause-memory c =
    let p = err_from_is_err_and c.from_residual-in_err-frag.result c.from_residual-in_err-frag.ensures.1 in
    let bytes = c.args.bytes.now in
    let head = c.in_ok-level in
    let area = c.in_ok-area in
    let h = read_some _ c.head_of.result (head.level, head.k, head.rest) (head_at bytes) head.ensures.ok_part c.head_of.ensures in
    let a = read_some _ c.area_of.result (area.area, area.rest) (area_at head.k.number head.rest.now) area.ensures.ok_part c.area_of.ensures in
    rw (p.1, p.2) (wants_then c.in_err-frag.field-0.0 (IsCutOrRecords area.rest.now) (BeginsWithMany (1 ∷ bytes)) c.in_err-frag.ensures.memory
    (begins bytes head.level head.k.number head.rest.now area.area area.rest.now (λ i. omega (arith, c.type_inv.bytes i)) h a))
