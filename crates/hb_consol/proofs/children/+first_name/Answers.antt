use Rattle.std.proofs.Common.{◌∙◌}
use Rattle.hb_frag.specs.Leaves.{leaves}
use Rattle.hb_consol.proofs.ChildrenBehind.{first_in_front, first_in_rest}
use Rattle.hb_consol.proofs.children.+first_name.Goals as goal

pub returns-in-Some : goal.returns-in-Some
returns-in-Some t c =
    rw (← c.part.view_is, c.in-Cut.is)
    (first_in_front (leaves c.in-Cut.left.value) (leaves c.in-Cut.right.value) c.in-Some.name (rw c.deref.ensures at c.in-Some.ensures))

pub returns-in-None : goal.returns-in-None
returns-in-None t c =
    rw (← c.part.view_is, c.in-Cut.is)
    ((rw c.deref-in-None.ensures at c.first_name-in-None.ensures)
    ∙ first_in_rest (leaves c.in-Cut.left.value) (leaves c.in-Cut.right.value) (rw c.deref.ensures at c.in-None.ensures))
