use Rattle.hb_point.proofs.ViewedRows.{cut_there, held_there}
use Rattle.hb_point.proofs.descending.count_at.Goals as goal

pub count_at-requires-clause-well_cut : goal.count_at-requires-clause-well_cut
count_at-requires-clause-well_cut c = cut_there c.args.view.now c.args.meta.now c.args.point.now c.requires

pub count_at-requires-clause-held : goal.count_at-requires-clause-held
count_at-requires-clause-held c = held_there c.args.view.now c.args.meta.now c.args.point.now c.requires
