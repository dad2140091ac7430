use Rattle.std.proofs.Common.{sym, ap, ◌∙◌}
use Rattle.hb_frag.specs.Nodes.{tree_of}
use Rattle.hb_split.proofs.WaysDown.{climbed}
use Rattle.hb_split.proofs.ways.+climb.Goals as goal

pub returns-in_ok-add_step-in-Cut-clause-way : goal.returns-in_ok-add_step-in-Cut-clause-way
returns-in_ok-add_step-in-Cut-clause-way t c =
    climbed c.args.total c.in_ok-left-in-Cut.left c.in_ok-right-in-Cut.right c.in-Cut.axis c.in-Cut.value c.args.frag.now c.in-Cut.left.value c.in-Cut.right.value c.deref.result.now c.deref-in-Cut.result.now
    c.args.steps.now.items c.climb.new.steps.items c.climb-in-Cut.new.steps.items c.add_step.new.steps.items
    (sym c.frag.view_is ∙ ap tree_of c.in-Cut.is) c.deref.ensures c.deref-in-Cut.ensures c.in_ok-left-in-Cut.ensures.weight c.in_ok-right-in-Cut.ensures.weight c.requires
    c.in_ok-left-in-Cut.ensures.way c.in_ok-right-in-Cut.ensures.way c.in_ok-add_step-in-Cut.ensures
