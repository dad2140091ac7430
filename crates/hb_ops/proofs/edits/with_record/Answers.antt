use Rattle.std.proofs.Common.{◌≡◌, IfOk, sym, subst, ◌∙◌}
use Rattle.hb_space.specs.declared.records.Record.{Record}
use Rattle.hb_frag.specs.declared.pages.LivePage.{LivePage}
use Rattle.hb_ops.specs.Recording.{joined}
use Rattle.hb_ops.proofs.Facts.Opened.{page_made}
use Rattle.hb_ops.proofs.Facts.Places.{joined_at}
use Rattle.hb_ops.proofs.edits.with_record.Goals as goal

pub returns : goal.returns
returns c =
    let rec : Record = c.args.rec.now in
    let is = rw c.as_slice.ensures at c.in_ok-joined.ensures in
    let same = page_made c.args.meta.now c.args.page.now rec.key c.args.records.now c.in_ok-joined.joined (joined rec) c.requires.opened (is ∙ sym (joined_at c.args.records.now rec c.args.place c.requires.gap)) in
    subst (λ (page : LivePage). IfOk c.with_records.result (λ made. made ≡ page)) same c.with_records.ensures
