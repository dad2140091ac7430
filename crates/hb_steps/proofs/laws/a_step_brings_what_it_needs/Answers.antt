use Rattle.hb_steps.proofs.laws.a_step_brings_what_it_needs.Goals as goal
use Rattle.hb_steps.proofs.Memory.NeededPages.{pages_come_by_need}

pub returns : goal.returns
returns c = pages_come_by_need
