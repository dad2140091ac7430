use Rattle.std.proofs.Common.{length}
use Rattle.hb_page_codec.proofs.Writes.{countable}
use Rattle.hb_page_codec.proofs.encoding.put_fields.Goals as goal

pub put_fragment-requires-clause-count : goal.put_fragment-requires-clause-count
put_fragment-requires-clause-count c =
    let page = c.in-Live.page in
    let fits = rw c.in-Live.is at c.requires.fits in
    countable (length page.area.lo) page.frag fits.2
