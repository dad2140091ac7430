use Rattle.hb_ops.proofs.CutTests.{planes_cut, stays_inside}
use Rattle.hb_ops.proofs.extracting.extract.Goals as goal

pub split-requires-clause-inside : goal.split-requires-clause-inside
split-requires-clause-inside c = stays_inside c.args.part.path.now c.args.page.now.frag c.args.page.now.area (c.in-Some.frag.now, c.in-Some.area) c.in-Some.ensures.1.there

pub split-requires-clause-planes : goal.split-requires-clause-planes
split-requires-clause-planes c = planes_cut c.args.part.cuts.now c.in-Some.frag.now c.in-Some.area c.in-Some.ensures.1.parted
