use Rattle.std.proofs.Common.{option_map}
use Rattle.hb_point.proofs.ViewedRows.{cut_there, held_there, stands_in}
use Rattle.hb_point.proofs.descending.found_at.Goals as goal

pub find-requires-clause-well_cut : goal.find-requires-clause-well_cut
find-requires-clause-well_cut c = cut_there c.args.view.now c.args.meta.now c.args.point.now c.requires

pub find-requires-clause-held : goal.find-requires-clause-held
find-requires-clause-held c = held_there c.args.view.now c.args.meta.now c.args.point.now c.requires

pub returns-clause-stands : goal.returns-clause-stands
returns-clause-stands c = stands_in c.args.view.now c.args.meta.now c.args.point.now (option_map (λ b. b.now) c.find.result) c.requires c.find.ensures.found
