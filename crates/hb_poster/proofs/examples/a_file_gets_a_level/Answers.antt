use Rattle.hb_poster.proofs.WalkExamples.{grows_by_hand}
use Rattle.hb_poster.proofs.examples.a_file_gets_a_level.Goals as goal

pub returns : goal.returns
returns c = grows_by_hand
