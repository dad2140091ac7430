use Rattle.std.proofs.Common.{sym, ap, ◌∙◌}
use Rattle.hb_frag.specs.Leaves.{child_names, leaves}
use Rattle.hb_consol.specs.Doing.{sought}
use Rattle.hb_consol.specs.declared.children.Sought.{Sought}
use Rattle.hb_consol.proofs.ChildrenBehind.{sought_in_both, there_stays}
use Rattle.hb_consol.proofs.children.+sought_in.Goals as goal

pub returns-in-There : goal.returns-in-There
returns-in-There t c =
    rw c.in-There.is (sym (there_stays (child_names (leaves c.args.above.now.frag)) c.args.child c.in-There.name (child_names (leaves c.args.part.now))))

pub returns-in-Cut : goal.returns-in-Cut
returns-in-Cut t c =
    rw (← c.part.view_is, c.in-Cut.is)
    ((rw c.deref-in-Cut.ensures at c.sought_in.ensures)
    ∙ ap (λ (front : Sought). sought (child_names (leaves c.args.above.now.frag)) c.args.child front (child_names (leaves c.in-Cut.right.value))) (rw c.deref.ensures at c.sought_in-front.ensures)
    ∙ sought_in_both (child_names (leaves c.args.above.now.frag)) c.args.child c.args.so_far (leaves c.in-Cut.left.value) (leaves c.in-Cut.right.value))
