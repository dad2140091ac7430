use Rattle.hb_poster.proofs.PostExamples.{posts_by_hand}
use Rattle.hb_poster.proofs.examples.a_box_is_posted.Goals as goal

pub returns : goal.returns
returns c = posts_by_hand
