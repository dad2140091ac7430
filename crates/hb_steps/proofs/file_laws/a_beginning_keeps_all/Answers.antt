use Rattle.hb_steps.proofs.file_laws.a_beginning_keeps_all.Goals as goal
use Rattle.hb_steps.proofs.Machines.Beginnings.{beginning_keeps_all}

pub returns : goal.returns
returns c = beginning_keeps_all
