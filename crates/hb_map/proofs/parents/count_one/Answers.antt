use Rattle.hb_map.proofs.Namings.{raised}
use Rattle.hb_map.proofs.parents.count_one.Goals as goal

pub returns-clause-counted : goal.returns-clause-counted
returns-clause-counted c place lt = raised c.args.parents.now c.args.id place c.if-id-eq0.false c.if-id-parents.false
