use Rattle.hb_search.proofs.SeenSearches.{can_look, gathers_now, has_low_level, may_gather, on_err, passes_so, same_row, stays_on, walks}
use Rattle.hb_search.proofs.descending.descend.Goals as goal

pub pass_on-requires-clause-walk : goal.pass_on-requires-clause-walk
pass_on-requires-clause-walk c = walks c.args.view c.args.state c.requires

pub pass_on-requires-clause-inside : goal.pass_on-requires-clause-inside
pass_on-requires-clause-inside c = can_look c.args.view c.args.state c.requires

pub pass_on-requires-clause-level : goal.pass_on-requires-clause-level
pass_on-requires-clause-level c = has_low_level c.args.view c.args.state c.requires

pub gather-requires : goal.gather-requires
gather-requires c = may_gather c.args.view c.args.state c.requires c.in-Err.state c.in-Err.ensures.same c.in-Err.ensures.records

pub returns-in-Ok-clause-row : goal.returns-in-Ok-clause-row
returns-in-Ok-clause-row c = passes_so c.args.view c.args.state c.requires c.args.id c.in-Ok.next c.in-Ok.ensures.passes

pub returns-in-Ok-clause-kept : goal.returns-in-Ok-clause-kept
returns-in-Ok-clause-kept c = stays_on c.args.view c.args.state c.requires c.args.id c.in-Ok.next c.in-Ok.ensures.passes

pub returns-in-Err-clause-row : goal.returns-in-Err-clause-row
returns-in-Err-clause-row c = same_row c.args.view c.args.state c.in-Err.state c.args.id c.gather.result c.in-Err.ensures.same c.gather.ensures.row

pub returns-in-Err-clause-memory : goal.returns-in-Err-clause-memory
returns-in-Err-clause-memory c = on_err c.gather.result (gathers_now c.args.view c.args.state c.requires c.in-Err.ensures.records)
