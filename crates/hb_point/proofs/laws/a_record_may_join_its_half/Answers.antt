use Rattle.hb_point.proofs.AllowedCommands.{puts_are_allowed}
use Rattle.hb_point.proofs.laws.a_record_may_join_its_half.Goals as goal

pub returns : goal.returns
returns c = puts_are_allowed
