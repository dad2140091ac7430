use Rattle.hb_frag.specs.Rules.{BelongsAt}
use Rattle.hb_lemmas.proofs.Lists.{first_tells, second_tells}
use Rattle.hb_ops.proofs.local.+all_belong.Goals as goal

pub returns-then-all_belong : goal.returns-then-all_belong
returns-then-all_belong t c =
    rw (← c.frag.view_is, c.in-Cut.is)
    (second_tells (BelongsAt c.args.level) _ _ c.all_belong-then-all_belong.result
    ((rw c.deref.ensures at c.all_belong.ensures).0 c.if-all_belong.true)
    (rw c.deref-then-all_belong.ensures at c.all_belong-then-all_belong.ensures))

pub returns-else-all_belong : goal.returns-else-all_belong
returns-else-all_belong t c =
    rw (← c.frag.view_is, c.in-Cut.is)
    (first_tells (BelongsAt c.args.level) _ _ c.all_belong.result c.if-all_belong.false (rw c.deref.ensures at c.all_belong.ensures))
