use Rattle.std.proofs.Common.{◌≡◌, ◌++◌, arith}
use Rattle.std.proofs.lemmas.Result.{err_from_is_err_and}
use Rattle.hb_space.specs.declared.form.TheConstants.{PAGE}
use Rattle.hb_page_codec.specs.Reading.{number_at}
use Rattle.hb_log_codec.proofs.GroupReads.{page_image_short, page_image_refused, page_image_begins, halves}
use Rattle.hb_log_codec.proofs.reading.page_image_of.Goals as goal
use Rattle.hb_page_codec.proofs.Facts.Refusals.{read_some}

pub returns-then-rest-lt-PAGE : goal.returns-then-rest-lt-PAGE
returns-then-rest-lt-PAGE c =
    let number = c.in_ok-number in
    let read = read_some _ c.u32_of.result (number.number, number.rest) (number_at 4 c.args.bytes.now) number.ensures.ok_part c.u32_of.ensures in
    page_image_short c.fields_are_exact.ensures c.args.bytes.now number.number number.rest.now read c.if-rest-lt-PAGE.true

pub returns-in_err-page : goal.returns-in_err-page
returns-in_err-page c =
    let number = c.in_ok-number in
    let rest = number.rest.now in
    let p = err_from_is_err_and c.from_residual-in_err-page.result c.from_residual-in_err-page.ensures.1 in
    let read = read_some _ c.u32_of.result (number.number, number.rest) (number_at 4 c.args.bytes.now) number.ensures.ok_part c.u32_of.ensures in
    let front = c.split_at.result.0.now in
    let parts : rest ≡ front ++ c.split_at.result.1.now = halves PAGE rest front c.split_at.result.1.now c.split_at.ensures.front c.split_at.ensures.back in
    rw (p.1, p.2) (page_image_refused c.fields_are_exact.ensures c.args.bytes.now number.number rest front c.split_at.result.1.now c.in_err-page.field-0.0 read parts c.split_at.ensures.front_len c.in_err-page.ensures.only)

pub returns : goal.returns
returns c =
    let number = c.in_ok-number in
    let rest = number.rest.now in
    let read = read_some _ c.u32_of.result (number.number, number.rest) (number_at 4 c.args.bytes.now) number.ensures.ok_part c.u32_of.ensures in
    let front = c.split_at.result.0.now in
    let parts : rest ≡ front ++ c.split_at.result.1.now = halves PAGE rest front c.split_at.result.1.now c.split_at.ensures.front c.split_at.ensures.back in
    page_image_begins c.fields_are_exact.ensures c.args.bytes.now number.number rest front c.split_at.result.1.now c.in_ok-page.page (λ i. omega (arith, c.type_inv.bytes i)) read parts c.in_ok-page.ensures.found
