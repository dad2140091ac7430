use Rattle.hb_frag.specs.declared.leaves.Leaf.TheVariants as leaves
use Rattle.hb_view.proofs.Led.{leads_here, leads_left, leads_nowhere, leads_right}
use Rattle.hb_view.proofs.walking.+list_in.Goals as goal

pub returns-then-p-from-clause-leads : goal.returns-then-p-from-clause-leads
returns-then-p-from-clause-leads t c =
    let tree = c.args.tree.now in
    leads_left tree.k.number tree.bytes.now c.in-Cut.left.now c.args.p.now c.in-Cut.axis c.in-Cut.value c.from.result c.list_in.result tree.there c.in-Cut.ensures c.from.ensures c.if-p-from.true c.list_in.ensures.leads

pub returns-else-p-from-clause-leads : goal.returns-else-p-from-clause-leads
returns-else-p-from-clause-leads t c =
    let tree = c.args.tree.now in
    leads_right tree.k.number tree.bytes.now c.in-Cut.left.now c.rest_of-right.result.now c.args.p.now c.in-Cut.axis c.in-Cut.value c.from.result c.list_in-else-p-from.result tree.there c.in-Cut.ensures c.rest_of-right.ensures c.from.ensures c.if-p-from.false
    c.list_in-else-p-from.ensures.leads

pub returns-in-Records-clause-leads : goal.returns-in-Records-clause-leads
returns-in-Records-clause-leads t c = let tree = c.args.tree.now in leads_here tree.k.number tree.bytes.now c.args.p.now c.in-Records.first.now c.in-Records.count tree.there c.in-Records.ensures

pub returns-in-Child-clause-leads : goal.returns-in-Child-clause-leads
returns-in-Child-clause-leads t c = let tree = c.args.tree.now in leads_nowhere tree.k.number tree.bytes.now c.args.p.now (leaves.Child c.in-Child.page) c.in-Child.ensures.tree tt

pub returns-in-Sibling-clause-leads : goal.returns-in-Sibling-clause-leads
returns-in-Sibling-clause-leads t c = let tree = c.args.tree.now in leads_nowhere tree.k.number tree.bytes.now c.args.p.now (leaves.Sibling c.in-Sibling.page) c.in-Sibling.ensures.tree tt
