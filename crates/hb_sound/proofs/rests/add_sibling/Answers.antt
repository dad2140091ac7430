use Rattle.hb_sound.proofs.RestSteps.{lone_more}
use Rattle.hb_sound.proofs.rests.add_sibling.Goals as goal

pub returns-then-is_nothing : goal.returns-then-is_nothing
returns-then-is_nothing c facts level before is =
    lone_more facts level before c.args.rest.now c.lone.result c.args.name c.args.corners.now (c.is_nothing.ensures.0 c.if-is_nothing.true) c.lone.ensures is
