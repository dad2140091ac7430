use Rattle.std.proofs.Common.{sym, ◌∙◌, arith}
use Rattle.std.proofs.lemmas.Bool.{false≢true}
use Rattle.hb_ops.proofs.PostTests.{posts_at}
use Rattle.hb_ops.proofs.posting.leaf_for.Goals as goal

pub returns-then-page-eq0 : goal.returns-then-page-eq0
returns-then-page-eq0 c = λ fits. omega (arith, fits.above, c.if-page-eq0.true)

pub returns-in-None : goal.returns-in-None
returns-in-None c = λ fits. c.in-None.ensures fits.outer fits.box fits.leaf

pub returns-then-may_name : goal.returns-then-may_name
returns-then-may_name c =
    let fits = c.may_name.ensures.0 c.if-may_name.true in
    posts_at c.args.meta.now c.args.page.now c.args.posting.at.now c.args.posting.inner c.args.posting.area.now c.in-Some.outer c.in-Some.leaf c.in-Some.ensures fits.made c.requires.attributes fits

pub returns-else-may_name : goal.returns-else-may_name
returns-else-may_name c = λ fits. false≢true (sym c.if-may_name.false ∙ c.may_name.ensures.1 fits)
