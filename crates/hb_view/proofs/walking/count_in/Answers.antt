use Rattle.hb_view.specs.Lists.{records_there}
use Rattle.hb_view.specs.Roots.{tree_there}
use Rattle.hb_view.proofs.LookedFor.{counts, counts_none}
use Rattle.hb_view.proofs.walking.count_in.Goals as goal

pub returns-in-Some : goal.returns-in-Some
returns-in-Some c =
    let list = c.in-Some.list in
    counts (tree_there c.args.tree.now.k.number c.args.tree.now.bytes.now) c.args.p.now (records_there c.args.tree.now.k.number list.count list.first.now) list.count c.in-Some.ensures.leads.leaf c.in-Some.ensures.leads.counted

pub returns-in-None : goal.returns-in-None
returns-in-None c = counts_none (tree_there c.args.tree.now.k.number c.args.tree.now.bytes.now) c.args.p.now c.in-None.ensures.leads
