use Rattle.hb_poster.proofs.PostExamples.{splits_by_hand}
use Rattle.hb_poster.proofs.examples.a_parent_without_room_is_split.Goals as goal

pub returns : goal.returns
returns c = splits_by_hand
