use Rattle.std.proofs.Common.{ap, ◌∙◌}
use Rattle.hb_frag.specs.Leaves.{child_names, leaves}
use Rattle.hb_consol.specs.Doing.{earlier_of}
use Rattle.hb_consol.proofs.ChildrenBehind.{earlier_in_both, or_else}
use Rattle.hb_consol.proofs.children.+earlier_in.Goals as goal

pub returns-in-First : goal.returns-in-First
returns-in-First t c =
    rw (← c.part.view_is, c.in-Cut.is)
    (ap (λ front. or_else front (earlier_of c.args.name c.args.other (child_names (leaves c.in-Cut.right.value)))) (rw c.deref.ensures at c.in-First.ensures)
    ∙ earlier_in_both c.args.name c.args.other (leaves c.in-Cut.left.value) (leaves c.in-Cut.right.value))

pub returns-in-Other : goal.returns-in-Other
returns-in-Other t c =
    rw (← c.part.view_is, c.in-Cut.is)
    (ap (λ front. or_else front (earlier_of c.args.name c.args.other (child_names (leaves c.in-Cut.right.value)))) (rw c.deref.ensures at c.in-Other.ensures)
    ∙ earlier_in_both c.args.name c.args.other (leaves c.in-Cut.left.value) (leaves c.in-Cut.right.value))

pub returns-in-Neither : goal.returns-in-Neither
returns-in-Neither t c =
    rw (← c.part.view_is, c.in-Cut.is)
    ((rw c.deref-in-Neither.ensures at c.earlier_in-in-Neither.ensures)
    ∙ ap (λ front. or_else front (earlier_of c.args.name c.args.other (child_names (leaves c.in-Cut.right.value)))) (rw c.deref.ensures at c.in-Neither.ensures)
    ∙ earlier_in_both c.args.name c.args.other (leaves c.in-Cut.left.value) (leaves c.in-Cut.right.value))
