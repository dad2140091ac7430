use Rattle.hb_frag.specs.Leaves.{leaves_of}
use Rattle.hb_poster.proofs.SiblingLeaves.{left_has, left_has_none}
use Rattle.hb_poster.proofs.growing.+has_sibling.Goals as goal
use Rattle.hb_space.specs.Boxes.{side_below, side_from}

pub returns-then-has_sibling : goal.returns-then-has_sibling
returns-then-has_sibling t c area =
    let below = side_below area c.in-Cut.axis c.in-Cut.value in
    let from = side_from area c.in-Cut.axis c.in-Cut.value in
    rw (← c.frag.view_is, c.in-Cut.is)
    (left_has (leaves_of c.in-Cut.left.value below) (leaves_of c.in-Cut.right.value from) c.has_sibling.result (rw c.deref.ensures at c.has_sibling.ensures below) c.if-has_sibling.true)

pub returns-else-has_sibling : goal.returns-else-has_sibling
returns-else-has_sibling t c area =
    let below = side_below area c.in-Cut.axis c.in-Cut.value in
    let from = side_from area c.in-Cut.axis c.in-Cut.value in
    rw (← c.frag.view_is, c.in-Cut.is)
    (left_has_none (leaves_of c.in-Cut.left.value below) (leaves_of c.in-Cut.right.value from) c.has_sibling.result c.has_sibling-else-has_sibling.result
    (rw c.deref.ensures at c.has_sibling.ensures below) c.if-has_sibling.false (rw c.deref-else-has_sibling.ensures at c.has_sibling-else-has_sibling.ensures from))
