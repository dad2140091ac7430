use Rattle.std.proofs.Common.{◌≡◌, ◌∙◌, List, ℕ, subst}
use Rattle.std.specs.declared.cmp.Ordering.TheVariants.{Less}
use Rattle.std.proofs.lemmas.List.{take_rest}
use Rattle.hb_space.specs.Points.{point_cmp}
use Rattle.hb_set.proofs.Windows.{outside_least, outside_greatest}
use Rattle.hb_set.proofs.search.limit_behind.Goals as goal

pub returns-then-value-least : goal.returns-then-value-least
returns-then-value-least c q after before =
    let least : c.values-least.result.now ≡ c.args.area.now.lo = c.values-least.ensures.value ∙ c.lo.ensures.value in
    let is = rw (take_rest c.values-least.result.now c.loop-axis.axis, c.values-values.ensures.value, least) at c.joined.ensures in
    outside_least c.loop-axis.axis c.args.area.now.lo c.args.area.now.hi c.args.outside.now q (rw c.values-values.ensures.value at c.loop-axis-test.true) after (subst (λ (ls : List ℕ). point_cmp q ls ≡ Less) is before)

pub returns-then-greatest-axis : goal.returns-then-greatest-axis
returns-then-greatest-axis c q after before =
    let above = rw (c.values-values.ensures.value, c.values-greatest.ensures.value, c.hi.ensures.value) at c.if-greatest-axis.true in
    let is = rw c.values-values.ensures.value at c.joined-then-greatest-axis.ensures in
    outside_greatest c.loop-axis.axis 18446744073709551615 c.args.area.now.lo c.args.area.now.hi c.args.outside.now q (rw c.values-values.ensures.value at c.loop-axis-test.true) above after (subst (λ (ls : List ℕ). point_cmp q ls ≡ Less) is before)
