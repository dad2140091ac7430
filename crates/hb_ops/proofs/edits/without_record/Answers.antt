use Rattle.std.proofs.Common.{◌≡◌, IfOk, sym, subst, ◌∙◌}
use Rattle.hb_frag.specs.declared.pages.LivePage.{LivePage}
use Rattle.hb_ops.specs.Recording.{without}
use Rattle.hb_ops.proofs.Facts.Opened.{page_made, rising_at}
use Rattle.hb_ops.proofs.Facts.Places.{without_at}
use Rattle.hb_ops.proofs.edits.without_record.Goals as goal

pub returns : goal.returns
returns c =
    let opened = c.requires.opened in
    let rise = rising_at c.args.page.now c.args.point.now c.args.records.now opened.area opened.made.in_order opened.leaf in
    let is = rw c.as_slice.ensures at c.in_ok-rest.ensures in
    let same = page_made c.args.meta.now c.args.page.now c.args.point.now c.args.records.now c.in_ok-rest.rest (without c.args.point.now) opened (is ∙ sym (without_at c.args.records.now c.args.point.now c.args.place rise c.requires.found)) in
    subst (λ (page : LivePage). IfOk c.with_records.result (λ made. made ≡ page)) same c.with_records.ensures
