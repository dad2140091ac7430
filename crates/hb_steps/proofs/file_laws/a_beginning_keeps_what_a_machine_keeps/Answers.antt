use Rattle.hb_steps.proofs.file_laws.a_beginning_keeps_what_a_machine_keeps.Goals as goal
use Rattle.hb_steps.proofs.Machines.Beginnings.{beginning_keeps}

pub returns : goal.returns
returns c = beginning_keeps
