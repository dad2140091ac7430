use Rattle.hb_poster.proofs.ViewedWalks.{walk_row}
use Rattle.hb_poster.proofs.deciding.descend.Goals as goal

pub returns-in-PosterWalk : goal.returns-in-PosterWalk
returns-in-PosterWalk c = record { row = walk_row c.args.view.now c.args.state c.in-PosterWalk.job c.in-PosterWalk.held c.args.id c.walk_by_view.result c.in-PosterWalk.is c.walk_by_view.ensures }
