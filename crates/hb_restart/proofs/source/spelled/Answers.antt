use Rattle.std.proofs.Common.{◌≡◌, sym, arith}
use Rattle.hb_page_codec.specs.declared.errors.PageError.TheVariants as errors
use Rattle.hb_restart.proofs.PlaceReads.{bad_read}
use Rattle.hb_restart.proofs.source.spelled.Goals as goal

pub returns-in-Ok-clause-page : goal.returns-in-Ok-clause-page
returns-in-Ok-clause-page c =
    sym ((c.fields_are_read_exactly.ensures.page c.args.bytes.now c.in-Ok.page (λ i. omega (arith, c.type_inv.bytes i))).1 c.in-Ok.ensures.found)

pub returns-in-Err-BadPage-clause-page : goal.returns-in-Err-BadPage-clause-page
returns-in-Err-BadPage-clause-page c =
    bad_read c.fields_are_read_exactly.ensures.page c.args.bytes.now (λ i. omega (arith, c.type_inv.bytes i))
    c.in-Err-BadPage.field-0 (let is : c.in-Err-BadPage.field-0 ≡ errors.BadPage = cc (c.in-Err-BadPage.field-0-is) in is) c.in-Err-BadPage.ensures.only
