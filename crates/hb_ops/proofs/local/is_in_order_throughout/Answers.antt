use Rattle.std.proofs.Common.{arith, refl}
use Rattle.hb_ops.proofs.PostMade.{order_above}
use Rattle.hb_ops.proofs.local.is_in_order_throughout.Goals as goal

pub returns-else-page-eq0 : goal.returns-else-page-eq0
returns-else-page-eq0 c =
    let other = c.if-page-eq0.false in
    (λ _. order_above c.args.page.now.level c.args.page.now.frag c.args.page.now.area (omega (arith, other)) c.requires.kinds, λ _. refl)
