use Rattle.hb_poster.proofs.PostExamples.{looks_by_hand}
use Rattle.hb_poster.proofs.examples.a_child_is_looked_at.Goals as goal

pub returns : goal.returns
returns c = looks_by_hand
