use Rattle.std.proofs.Common.{sym, ◌∙◌}
use Rattle.hb_latch.proofs.Conflicts.{named_least, named_nobody, none_named}
use Rattle.hb_latch.proofs.latches.Latches.in_the_way.Goals as goal
use Rattle.hb_lemmas.proofs.Options.{if_value}

pub returns-clause-free : goal.returns-clause-free
returns-clause-free c =
    let named = rw c.as_slice.ensures.value at c.in_the_way.ensures in
    rw (← c.self.view_is) (
      λ none. none_named c.self.inside.held.items c.args.actor c.args.page c.args.mode c.self.invariant.rising (sym none ∙ named),
      λ grantable. named ∙ named_nobody c.self.inside.held.items c.args.actor c.args.page c.args.mode c.self.invariant.rising grantable,
    )

pub returns-clause-least : goal.returns-clause-least
returns-clause-least c =
    let named = rw c.as_slice.ensures.value at c.in_the_way.ensures in
    rw (← c.self.view_is) (if_value c.in_the_way.result _ (λ other is. named_least c.self.inside.held.items c.args.actor c.args.page c.args.mode other c.self.invariant.rising (sym is ∙ named)))
