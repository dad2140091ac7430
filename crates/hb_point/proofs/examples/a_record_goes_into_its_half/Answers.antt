use Rattle.hb_point.proofs.SplitExamples.{puts_by_hand}
use Rattle.hb_point.proofs.examples.a_record_goes_into_its_half.Goals as goal

pub returns : goal.returns
returns c = puts_by_hand
