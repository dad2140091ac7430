use Rattle.hb_point.proofs.PointExamples.{lookups_by_hand}
use Rattle.hb_point.proofs.examples.a_lookup_gives_the_body.Goals as goal

pub returns : goal.returns
returns c = lookups_by_hand
