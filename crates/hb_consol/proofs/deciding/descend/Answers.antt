use Rattle.hb_consol.proofs.ViewedParents.{walk_row}
use Rattle.hb_consol.proofs.deciding.descend.Goals as goal

pub returns-in-ConsolidatorWalk : goal.returns-in-ConsolidatorWalk
returns-in-ConsolidatorWalk c = record { row = walk_row c.args.view.now c.args.state c.in-ConsolidatorWalk.job c.in-ConsolidatorWalk.held c.args.id c.walk_by_view.result c.in-ConsolidatorWalk.is c.walk_by_view.ensures }
