use Rattle.std.proofs.Common.{sym, subst}
use Rattle.hb_store.specs.Filling.{PutsInto}
use Rattle.hb_store.proofs.Called.{frame_none, frame_some}
use Rattle.hb_store.proofs.Filled.{puts_new, puts_there}
use Rattle.hb_store.proofs.pages.put.Goals as goal

pub returns-then-is_some : goal.returns-then-is_some
returns-then-is_some c =
    let pool = c.args.pool.now in
    subst (PutsInto c.args.id c.args.page.now pool) (sym c.change.ensures) (puts_there pool c.args.id c.encode.new.into c.args.page.now c.requires.pool c.encode.ensures (frame_some c.get.result pool c.args.id c.get.ensures (sym c.if-is_some.ensures)))

pub returns-else-is_some : goal.returns-else-is_some
returns-else-is_some c =
    let pool = c.args.pool.now in
    let none = frame_none c.get.result pool c.args.id c.get.ensures (sym c.if-is_some.ensures) in
    subst (PutsInto c.args.id c.args.page.now pool) (sym c.bring.ensures) (puts_new pool c.args.id c.encode.new.into c.args.page.now c.requires.pool c.encode.ensures none (c.requires.place none))
