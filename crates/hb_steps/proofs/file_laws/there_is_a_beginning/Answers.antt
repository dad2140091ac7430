use Rattle.hb_steps.proofs.file_laws.there_is_a_beginning.Goals as goal
use Rattle.hb_steps.proofs.Machines.Beginnings.{beginning_exists}

pub returns : goal.returns
returns c = beginning_exists
