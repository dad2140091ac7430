use Rattle.hb_point.proofs.PointExamples.{inserts_by_hand}
use Rattle.hb_point.proofs.examples.a_record_joins_a_page_with_room.Goals as goal

pub returns : goal.returns
returns c = inserts_by_hand
