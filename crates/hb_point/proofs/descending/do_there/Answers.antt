use Rattle.std.proofs.Common.{subst}
use Rattle.hb_point.proofs.DescendedRows.{does_so}
use Rattle.hb_point.specs.Doing.{IsAtRecords}
use Rattle.hb_point.proofs.descending.do_there.Goals as goal

pub does_there-requires : goal.does_there-requires
does_there-requires c = subst (IsAtRecords c.args.meta.now c.args.view.now) c.in-SessionWalk.is c.requires

pub returns : goal.returns
returns c = does_so c.args.view.now c.args.meta.now c.args.state c.in-SessionWalk.line _ _ _ c.args.id c.does_there.result c.in-SessionWalk.is c.does_there.ensures
