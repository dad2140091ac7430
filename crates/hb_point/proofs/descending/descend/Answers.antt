use Rattle.std.proofs.Common.{arith}
use Rattle.hb_point.proofs.DescendedRows.{at_records, can_look, has_low_level, passes_so, same_row}
use Rattle.hb_point.proofs.descending.descend.Goals as goal

pub pass_on-requires-clause-inside : goal.pass_on-requires-clause-inside
pass_on-requires-clause-inside c = can_look c.args.view c.args.meta.now c.args.state c.args.id c.requires.walks c.requires.asked

pub pass_on-requires-clause-level : goal.pass_on-requires-clause-level
pass_on-requires-clause-level c = has_low_level c.args.view c.args.meta.now c.args.state c.args.id (let few = c.requires.layout.few_levels in omega (arith, few)) c.requires.asked

pub do_there-requires : goal.do_there-requires
do_there-requires c = at_records c.args.view c.args.meta.now c.args.state c.in-Err.state c.args.id c.in-Err.ensures.same c.requires.walks c.requires.asked c.in-Err.ensures.records

pub returns-in-Ok : goal.returns-in-Ok
returns-in-Ok c = record { row = passes_so c.args.view c.args.meta.now c.args.state c.args.id c.in-Ok.next c.requires.walks c.in-Ok.ensures.passes }

pub returns-in-Err : goal.returns-in-Err
returns-in-Err c = record { row = same_row c.args.view c.args.meta.now c.args.state c.in-Err.state c.args.id c.do_there.result c.in-Err.ensures.same c.do_there.ensures }
