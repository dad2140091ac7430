use Rattle.std.proofs.Common.{◌↔◌, IsTrue, subst}
use Rattle.hb_space.specs.Boxes.{Area}
use Rattle.hb_frag.specs.Leaves.{siblings, leaves_of}
use Rattle.hb_frag.proofs.Clear.{AllClear}
use Rattle.hb_frag.proofs.pages.LivePage.directly.Goals as goal

pub returns-then-within : goal.returns-then-within
returns-then-within c =
    let P : Area → Type 0 = λ x. IsTrue c.is_clear_of.result ↔ AllClear c.args.a.now (siblings (leaves_of c.args.self.now.frag x)) in
    let clear = subst P c.copy.ensures.value c.is_clear_of.ensures in
    (λ t. record { inside = c.within.ensures.corners.0 c.if-within.true; not_given = clear.0 t }, λ w. clear.1 w.not_given)
