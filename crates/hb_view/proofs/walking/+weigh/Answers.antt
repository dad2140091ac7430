use Rattle.std.proofs.Common.{◌∙◌, arith}
use Rattle.hb_view.proofs.Walked.{list_weighs}
use Rattle.hb_view.proofs.walking.+weigh.Goals as goal

pub returns-in-Records-clause-weight : goal.returns-in-Records-clause-weight
returns-in-Records-clause-weight t c =
    omega (arith, c.max.ensures, c.from.ensures) ∙ list_weighs c.args.tree.now.k.number c.args.tree.now.bytes.now c.in-Records.first.now c.in-Records.count c.in-Records.ensures
