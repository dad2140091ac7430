use Rattle.hb_point.proofs.AllowedCommands.{commands_are_allowed}
use Rattle.hb_point.proofs.laws.a_commands_operation_is_allowed.Goals as goal

pub returns : goal.returns
returns c = commands_are_allowed
