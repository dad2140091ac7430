use Rattle.std.proofs.Common.{◌∙◌, sym, ap, arith}
use Rattle.std.specs.Prelude.{◌==◌, count_by}
use Rattle.hb_latch.specs.declared.entries.Held.{Held}
use Rattle.hb_latch.proofs.TableViews.{count_is}
use Rattle.hb_latch.proofs.latches.Latches.count.Goals as goal

pub returns-clause-value : goal.returns-clause-value
returns-clause-value c =
    rw (← c.self.view_is) (c.share_of.ensures ∙ ap (count_by (λ (h : Held). h.actor == c.args.actor)) c.as_slice.ensures.value ∙ sym (count_is c.self.inside.held.items c.args.actor c.self.invariant.rising))

pub returns-clause-few : goal.returns-clause-few
returns-clause-few c =
    let same = c.share_of.ensures ∙ ap (count_by (λ (h : Held). h.actor == c.args.actor)) c.as_slice.ensures.value in
    omega (arith, c.self.invariant.few c.args.actor, same)
