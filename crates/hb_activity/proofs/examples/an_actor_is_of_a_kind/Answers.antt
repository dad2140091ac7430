use Rattle.hb_activity.proofs.KindExamples.{kinds_by_hand}
use Rattle.hb_activity.proofs.examples.an_actor_is_of_a_kind.Goals as goal

pub returns : goal.returns
returns c = kinds_by_hand
