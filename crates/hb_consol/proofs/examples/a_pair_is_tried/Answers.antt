use Rattle.hb_consol.proofs.TryExamples.{tries_by_hand}
use Rattle.hb_consol.proofs.examples.a_pair_is_tried.Goals as goal

pub returns : goal.returns
returns c = tries_by_hand
