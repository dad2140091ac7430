use Rattle.hb_poster.proofs.WalkExamples.{walks_by_hand}
use Rattle.hb_poster.proofs.examples.a_walk_is_over_at_a_child.Goals as goal

pub returns : goal.returns
returns c = walks_by_hand
