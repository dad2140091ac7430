use Rattle.hb_point.proofs.PointExamples.{deletes_by_hand}
use Rattle.hb_point.proofs.examples.a_record_leaves_its_page.Goals as goal

pub returns : goal.returns
returns c = deletes_by_hand
