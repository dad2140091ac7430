use Rattle.std.proofs.Common.{◌∙◌}
use Rattle.hb_activity.specs.Walks.{walk_holding, walk_point}
use Rattle.hb_activity.proofs.PassedOn.{passes_child, passes_sibling, stays_at_records}
use Rattle.hb_activity.proofs.activities.Activity.pass_on.Goals as goal

pub returns-in-Records-clause-records : goal.returns-in-Records-clause-records
returns-in-Records-clause-records c = stays_at_records c.args.page.now (walk_point c.args.self) c.in-Records.ensures

pub returns-in-Child-clause-passes : goal.returns-in-Child-clause-passes
returns-in-Child-clause-passes c =
    let is = c.moves.ensures in
    passes_child c.args.page.now c.args.self (walk_holding c.args.id c.args.self) (walk_point c.args.self) c.in-Child.field-0 _ c.in-Child.ensures (record { stands = is.stands ∙ c.holding.ensures; op = is.op; jobs = is.jobs; fate = is.fate })

pub returns-in-Sibling-clause-passes : goal.returns-in-Sibling-clause-passes
returns-in-Sibling-clause-passes c =
    let is = c.adds.ensures in
    passes_sibling c.args.page.now c.args.self (walk_holding c.args.id c.args.self) (walk_point c.args.self) c.in-Sibling.field-0 c.level.result c.owed-job.result _ c.in-Sibling.ensures c.level.ensures c.owed-job.ensures
    (record { stands = is.stands ∙ c.holding-in-Sibling.ensures; op = is.op; jobs = is.jobs; fate = is.fate })
