use Rattle.hb_space.proofs.Facts.Boxes.{Holds-side_below, Holds-side_from}
use Rattle.hb_space.proofs.areas.Area.cut.Goals as goal

pub returns-clause-left : goal.returns-clause-left
returns-clause-left c = cc

pub returns-clause-right : goal.returns-clause-right
returns-clause-right c = cc

pub returns-clause-below : goal.returns-clause-below
returns-clause-below c = λ p.
    rw (returns-clause-left c) (Holds-side_below c.args.self.now c.args.axis c.args.value p c.lo.ensures.area c.requires)

pub returns-clause-above : goal.returns-clause-above
returns-clause-above c = λ p.
    rw (returns-clause-right c) (Holds-side_from c.args.self.now c.args.axis c.args.value p c.requires)
