use Rattle.hb_point.proofs.Facts.OneCommand.{commands_have_one_deed}
use Rattle.hb_point.proofs.laws.a_command_has_one_deed.Goals as goal

pub returns : goal.returns
returns c = commands_have_one_deed
