use Rattle.std.proofs.lemmas.Result.{err_from_is_err_and}
use Rattle.hb_log_codec.proofs.GroupReads.{page_images_more, page_images_stop}
use Rattle.hb_log_codec.proofs.reading.page_images_of.Goals as goal

pub returns-in_err-page_image : goal.returns-in_err-page_image
returns-in_err-page_image c =
    let p = err_from_is_err_and c.from_residual.result c.from_residual.ensures.1 in
    rw (p.1, p.2) (page_images_stop c.fields_are_exact.ensures c.spelling_law.ensures.one_page c.args.count c.loop.counter c.args.bytes.now c.loop.images.items c.loop.rest.now c.in_err-page_image.field-0.0 c.loop-test.true c.loop.invariant c.in_err-page_image.ensures)

pub loop-preserved : goal.loop-preserved
loop-preserved c =
    rw c.push.ensures.items (page_images_more c.loop.counter c.args.bytes.now c.loop.images.items c.loop.rest.now c.in_ok-page_image.page_image c.in_ok-page_image.after.now c.loop.invariant c.in_ok-page_image.ensures)
