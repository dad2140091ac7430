use Rattle.hb_point.proofs.SplitExamples.{splits_by_hand}
use Rattle.hb_point.proofs.examples.a_page_of_six_is_halved.Goals as goal

pub returns : goal.returns
returns c = splits_by_hand
