use Rattle.std.proofs.Common.{Some, sym, subst}
use Rattle.hb_lemmas.proofs.Options.{some_and_at, value_and}
use Rattle.hb_frag.specs.declared.pages.Page.TheVariants.{Live}
use Rattle.hb_pool.specs.Pools.{frame_of}
use Rattle.hb_view.specs.Splicing.{spliced}
use Rattle.hb_store.specs.Filling.{PutsInto}
use Rattle.hb_store.proofs.Spliced.{AreSpliceable, left_spliced, puts_spliced, spliceable}
use Rattle.hb_store.proofs.pages.put_there.Goals as goal

pub edit-requires : goal.edit-requires
edit-requires c =
    let can = spliceable c.args.point.now (Some c.args.body.now) c.args.pool.now c.args.id c.requires.spliced in
    let v = value_and (frame_of c.args.pool.now c.args.id) _ can in
    some_and_at (frame_of c.args.pool.now c.args.id) _ v.0 v.1 (λ p is. subst (AreSpliceable c.args.point.now (Some c.args.body.now)) (sym is) v.2)

pub returns : goal.returns
returns c = λ page was.
    let e = c.edit.ensures in
    let left = left_spliced c.args.point.now (Some c.args.body.now) e.changed.shown.now e.frame.bytes e.changed.left.now e.bytes e.changed.shows e.changed.leaves e.changed.met in
    subst (PutsInto c.args.id (Live (spliced c.args.point.now (Some c.args.body.now) page)) c.args.pool.now) (sym e.left)
    (puts_spliced c.args.point.now (Some c.args.body.now) c.args.pool.now c.args.id e.frame e.bytes c.requires.pool e.there e.whole left page was)
