use Rattle.hb_set.proofs.Facts.OrderLaws.{one_answer}
use Rattle.hb_set.proofs.laws.one_machine_one_answer.Goals as goal

pub returns : goal.returns
returns c = one_answer
