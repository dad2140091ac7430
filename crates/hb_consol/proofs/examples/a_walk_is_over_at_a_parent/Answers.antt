use Rattle.hb_consol.proofs.ScanExamples.{walks_by_hand}
use Rattle.hb_consol.proofs.examples.a_walk_is_over_at_a_parent.Goals as goal

pub returns : goal.returns
returns c = walks_by_hand
